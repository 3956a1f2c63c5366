-- The table of calls says what the facts tell.
use Rattle.std.proofs.Common.{◌≡◌, ℕ, ◌+◌, ◌≤◌, Bool, true, false, not, ◌&&◌, cond, leb, Option}
use Rattle.std.proofs.Common.{Some, None, List, [], ◌∷◌, refl, ap, subst, ◌∙◌, inl, arith}
use Rattle.std.specs.Prelude.{count_by, slice_get, sum_by, is_none}
use Rattle.std.specs.List.{find, list_any}
use Rattle.std.proofs.lemmas.Bool.{eq-eqb}
use Rattle.rpc_base.specs.declared.fact.Fact.{Fact}
use Rattle.rpc_base.specs.declared.limits.Limits.{Limits}
use Rattle.rpc_laws.specs.declared.tables.Arrival.{Arrival}
use Rattle.rpc_laws.specs.declared.tables.Call.{Call}
use Rattle.rpc_laws.specs.declared.tables.Client.{Client}
use Rattle.rpc_laws.specs.declared.tables.Lists.{Lists}
use Rattle.rpc_laws.specs.declared.tables.Progress.{Progress}
use Rattle.rpc_laws.specs.AtMostOnce.{begins_call, ends_call}
use Rattle.rpc_laws.specs.Calls.{is_call}
use Rattle.rpc_laws.specs.Front.{front_header, front_body}
use Rattle.rpc_laws.specs.NodeLists.{after, new_lists}
use Rattle.rpc_laws.specs.Queues.{ring_after}
use Rattle.rpc_laws.specs.Sessions.{is_client, has_call}
use Rattle.node_laws.specs.CallHistory.{latest_first, asks_call, TellsProgress, TellsCall, TellsTable}
use Rattle.node_laws.specs.Laws.{TablesTellTheHistory}
use Rattle.node_laws.specs.RequestHistory.{ring_by}
use Rattle.node_laws.proofs.Allowed.{Allowed, Leads}
use Rattle.node_laws.proofs.BeginLemmas.{begin-spends}
use Rattle.node_laws.proofs.CountLemmas.{holders-after, asks-after, none-held}
use Rattle.node_laws.proofs.EndedLaws.{Knows, knows-after, knows-new}
use Rattle.rpc_base.proofs.FindLemmas.{at-found}
use Rattle.node_laws.proofs.NumberLemmas.{numbered-at, numbered-found, one-holder}
use Rattle.node_laws.proofs.RunLaws.{run_leads}
use Rattle.node_laws.proofs.SpendLemmas.{to_begin}
use Rattle.rpc_base.proofs.FirstLemmas.{found-le, any-counted, none-counted}
use Rattle.rpc_base.proofs.BasicLemmas.{at-most-one}
use Rattle.node_laws.proofs.TakenLemmas.{none-taken-after}
use Rattle.node_laws.proofs.ToldLemmas.{NoneTaken, told-after}
use Rattle.node_laws.proofs.TellLemmas.{count-new, ToldProgress, ToldCall, Told}
use Rattle.node_laws.specs.Valid.{client_no, holders, to_come}

-- what is told at a moment
record Tells (past : List Fact) (s : Lists) : Type 0 where
  knows : Knows past s
  ring : ring_by past ≡ s.ring
  fresh : NoneTaken past s
  told : (c n : ℕ) → Told past c n (find (is_client n) s.clients)
  listed : (c : ℕ) → holders c s.clients + count_by (λ f. ends_call c f.event) past
      ≡ count_by (λ f. asks_call c f.event) past
  asked : (c : ℕ) → count_by (λ f. asks_call c f.event) past + to_come s.asked c ≤ 1
  begun : (c : ℕ) → count_by (λ f. begins_call c f.event) past + to_begin c s ≤ 1

tells-after : (clock : ℕ) (past : List Fact) (s : Lists) (f : Fact) → Tells past s
    → Allowed s f.event → Tells (f ∷ past) (after clock s f)
tells-after clock past s f k a = record {
  knows = knows-after clock past s f k.knows a;
  ring = ap (λ (d : List Arrival). ring_after f.event f.first d) k.ring;
  fresh = none-taken-after clock past f s k.fresh k.knows.eight k.knows.few a;
  told = λ c n. told-after clock f.who f.event f.first f.second past s k.knows.valid k.ring k.fresh a c n
      (k.told c n);
  listed = λ c.
      let was = k.listed c in
      let now = holders-after c clock f.event f.first (front_header s.ring) (front_body s.ring) s k.knows.valid a in
      let ends = count-new (ends_call c) f past (ends_call c f.event) refl in
      let asks = count-new (asks_call c) f past (asks_call c f.event) refl in
      omega arith;
  asked = λ c.
      let was = k.asked c in
      let now = asks-after c f.event s a in
      let asks = count-new (asks_call c) f past (asks_call c f.event) refl in
      omega arith;
  begun = λ c.
      let was = k.begun c in
      let few : to_begin c s ≤ 1 = omega arith in
      let now = begin-spends c clock f.event f.first (front_header s.ring)
      (front_body s.ring) s k.knows.valid few a in
      let begins = count-new (begins_call c) f past (begins_call c f.event) refl in
      omega arith;
}

tells-new : (me life : ℕ) (limits : Limits) → Tells [] (new_lists me life limits)
tells-new me life limits = record {
  knows = knows-new me life limits;
  ring = refl;
  fresh = record { taken = λ n r. inl refl };
  told = λ c n. tt;
  listed = λ c. refl;
  asked = λ c. at-most-one (leb 0 c);
  begun = λ c. let one = at-most-one (leb 0 c) in omega arith;
}

-- a call is in the table exactly where it was asked and isn't over
listed-by : (has asks ends : Bool) (l a e : ℕ) → cond has 1 0 ≤ l → (has ≡ false → l ≡ 0)
    → cond asks 1 0 ≤ a → (asks ≡ false → a ≡ 0) → cond ends 1 0 ≤ e → (ends ≡ false → e ≡ 0)
    → l + e ≡ a → a ≤ 1 → has ≡ (asks && not ends)
listed-by true true true l a e x y z w i j sum few = absurd (omega arith)
listed-by true true false l a e x y z w i j sum few = refl
listed-by true false ends l a e x y z w i j sum few = let none = w refl in absurd (omega arith)
listed-by false true true l a e x y z w i j sum few = refl
listed-by false true false l a e x y z w i j sum few = let none = y refl in let zero = j refl in absurd (omega arith)
listed-by false false ends l a e x y z w i j sum few = refl

no-more : (b : Bool) (n : ℕ) → cond b 1 0 ≤ n → n ≡ 0 → b ≡ false
no-more true n h e = absurd (omega arith)
no-more false n h e = refl

waiting-one : (b : Bool) (o : Option Progress) → b ≡ true → o ≡ None → ◌≡◌ {A = ℕ} (cond (b && is_none o) 1 0) 1
waiting-one b o e h = rw (e, h) refl

module _ (past : List Fact) (s : Lists) (k : Tells past s) where
  is-listed : (c : ℕ) → list_any (has_call c) s.clients
      ≡ (list_any (λ f. asks_call c f.event) past && not (list_any (λ f. ends_call c f.event) past))
  is-listed c =
      let any = any-counted (has_call c) s.clients in
      let one = one-holder c s.clients in
      let few = k.asked c in
      listed-by (list_any (has_call c) s.clients) (list_any (λ f. asks_call c f.event) past)
      (list_any (λ f. ends_call c f.event) past) (holders c s.clients)
      (count_by (λ f. asks_call c f.event) past) (count_by (λ f. ends_call c f.event) past)
      (omega arith) (none-held c s.clients) (any-counted (λ f. asks_call c f.event) past)
      (none-counted (λ f. asks_call c f.event) past)
      (any-counted (λ f. ends_call c f.event) past)
      (none-counted (λ f. ends_call c f.event) past) (k.listed c) (omega arith)

  -- a call that waits didn't begin
  not-begun : (n : ℕ) (x : Client) (c : Call) → find (is_client n) s.clients ≡ Some x
      → find (is_call c.what.number) x.calls ≡ Some c → c.progress ≡ None
      → list_any (λ f. begins_call c.what.number f.event) past ≡ false
  not-begun n x c client call waits =
      let i = c.what.number in
      let part = found-le (is_client n) (λ y. sum_by
      (λ d. cond (is_call i d && is_none d.progress) 1 0) y.calls) s.clients x client in
      let own = found-le (is_call i) (λ d. cond (is_call i d && is_none d.progress) 1 0) x.calls c call in
      let one = waiting-one (is_call i c) c.progress (eq-eqb i i refl) waits in
      let few = k.begun i in
      no-more (list_any (λ f. begins_call i f.event) past)
      (count_by (λ f. begins_call i f.event) past)
      (any-counted (λ f. begins_call i f.event) past) (omega arith)

  progress-by : (n : ℕ) (c : Call) (o : Option Progress)
      → (o ≡ None → list_any (λ f. begins_call c.what.number f.event) past ≡ false)
      → ToldProgress past c.what.number n o → TellsProgress past c.what.number n o
  progress-by n c None none t = none refl
  progress-by n c (Some p) none t = t

  tells-call : (n : ℕ) (x : Client) (c : Call) → find (is_client n) s.clients ≡ Some x
      → find (is_call c.what.number) x.calls ≡ Some c → TellsCall past n c
  tells-call n x c client call =
      let at : Told past c.what.number n (Some x) = rw client at (k.told c.what.number n) in
      let own : ToldCall past c.what.number n (Some c) = rw call at at in
      record {
        asked = own.0;
        progress = progress-by n c c.progress (not-begun n x c client call) own.1;
      }

  tells-at : (n i : ℕ) (x : Client) (c : Call) → slice_get s.clients n ≡ Some x
      → slice_get x.calls i ≡ Some c → TellsCall past n c
  tells-at n i x c client call =
      let valid = k.knows.valid in
      let once = valid.once c.what.number in
      let number : x.way.number ≡ n = numbered-at client_no 0 n s.clients x valid.numbered client ∙ zero-more n in
      let found : find (is_client n) s.clients ≡ Some x =
      subst (λ (m : ℕ). find (is_client m) s.clients ≡ Some x) number
      (numbered-found client_no 0 n s.clients x valid.numbered client) in
      let part = found-le (is_client n) (λ y. count_by (is_call c.what.number) y.calls) s.clients x found in
      tells-call n x c found (at-found (is_call c.what.number) x.calls i c (omega arith) call
      (eq-eqb c.what.number c.what.number refl))
    where
      zero-more : (m : ℕ) → 0 + m ≡ m
      zero-more m = omega arith

  tells-table : TellsTable past s
  tells-table = record { listed = is-listed; calls = tells-at }

at-end : (past : List Fact) (s : Lists) (g : List Fact) (t : Lists) → Tells past s → Leads s g t
    → TellsTable (latest_first past g) t
at-end past s [] t k l = rw l (tells-table past s k)
at-end past s (f ∷ g) t k l = at-end (f ∷ past) (after l.0 s f) g t (tells-after l.0 past s f k l.1) l.2

pub table_tells : TablesTellTheHistory
table_tells p me life limits g t r =
    at-end [] (new_lists me life limits) g t.lists (tells-new me life limits) (run_leads r)
