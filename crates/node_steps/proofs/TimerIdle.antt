-- Numbers of a session of which no call is active, and those of a session none of whose calls is
-- late: looking at them notes nothing, and they stay so.
use Rattle.std.proofs.Common.{◌≡◌, ℕ, zero, suc, ◌<◌, ◌≤◌, Bool, true, false, ◌&&◌, ◌||◌, cond, eqb}
use Rattle.std.proofs.Common.{leb, ltb, not, Option, Some, None, List, [], ◌∷◌, ◌++◌, refl, sym, ap}
use Rattle.std.proofs.Common.{◌∙◌}
use Rattle.std.proofs.Common.{arith}
use Rattle.std.specs.Prelude.{◌-◌, IfSome, is_some, map, option_and_then, option_map, slice_get}
use Rattle.std.specs.List.{AllByRecursion, find, flat_map, list_any}
use Rattle.std.proofs.lemmas.Bool.{eq-eqb, eqb-true, ne_eqb}
use Rattle.rpc_base.specs.Tables.{at_first, without_first}
use Rattle.rpc_base.specs.declared.event.Event.TheVariants.{Flushed, Rolled, Broken, DonePeerLost}
use Rattle.rpc_base.specs.declared.fact.Fact.{Fact}
use Rattle.rpc_base.specs.declared.owner.Owner.{Owner}
use Rattle.packet_header.specs.declared.packet.MessageHeader.{MessageHeader}
use Rattle.rpc_laws.specs.declared.rows.TimerRow.{TimerRow}
use Rattle.rpc_laws.specs.declared.rows.TimerRow.TheVariants.{Waits, RollsBack, Breaks}
use Rattle.rpc_laws.specs.declared.tables.Call.{Call}
use Rattle.rpc_laws.specs.declared.tables.Client.{Client}
use Rattle.rpc_laws.specs.declared.tables.Lists.{Lists}
use Rattle.rpc_laws.specs.declared.tables.Progress.{Progress}
use Rattle.rpc_laws.specs.declared.tables.Queued.{Queued}
use Rattle.rpc_laws.specs.declared.tables.Timed.{Timed}
use Rattle.rpc_laws.specs.Calls.{is_call, moved, rolled_back}
use Rattle.rpc_laws.specs.Facts.{plain}
use Rattle.rpc_laws.specs.Front.{front_header, front_body}
use Rattle.rpc_laws.specs.GoBackN.{Watches, call_facts, client_facts, flushes_of, progress_facts}
use Rattle.rpc_laws.specs.GoBackN.{row_facts, row_of}
use Rattle.rpc_laws.specs.NodeLists.{after, after_all}
use Rattle.rpc_laws.specs.Queues.{numbers_of}
use Rattle.rpc_laws.specs.Sessions.{breaks, clients_after, ends, has_call, is_client, rolls}
use Rattle.rpc_base.proofs.BasicLemmas.{or-false}
use Rattle.rpc_base.proofs.TakingLemmas.{find-passes}
use Rattle.session_store.specs.Changes.{calls_in}
use Rattle.session_store.specs.Ends.{Ascends, is_above, is_late, is_late_by}
use Rattle.node_steps.proofs.PacketReplies.{found-any}
use Rattle.node_steps.proofs.TimerNext.{both, is_next}

abbrev pub has_number : ℕ → Call → Bool
has_number m c = is_call m c && is_some c.progress

abbrev pub any_active : ℕ → ℕ → List Client → Bool
any_active i m xs = list_any (has_number m) (calls_in (slice_get xs i))

abbrev pub above : Option ℕ → ℕ → Bool
above None m = true
above (Some n) m = ltb n m

-- they give nothing
module _ (clock timeout me : ℕ) (queued : List Queued) (m : ℕ) where
  idle-progress : (x : Client) (number : ℕ) (o : Option Progress) (more : Bool)
      → (is_some o || more) ≡ false → progress_facts clock timeout me queued x number o ≡ []
  idle-progress x number None more h = refl
  idle-progress x number (Some p) more h = cc

  idle-cons : (x : Client) (c : Call) (cs : List Call) (b more : Bool)
      → ((b && is_some c.progress) || more) ≡ false
      → (more ≡ false → call_facts clock timeout me queued x (find (is_call m) cs) ≡ [])
      → call_facts clock timeout me queued x (cond b (Some c) (find (is_call m) cs)) ≡ []
  idle-cons x c cs true more h ih = idle-progress x c.what.number c.progress more h
  idle-cons x c cs false more h ih = ih h

  idle-calls : (x : Client) (cs : List Call) → list_any (has_number m) cs ≡ false
      → call_facts clock timeout me queued x (find (is_call m) cs) ≡ []
  idle-calls x [] h = refl
  idle-calls x (c ∷ cs) h =
      idle-cons x c cs (is_call m c) (list_any (has_number m) cs) h (idle-calls x cs)

  idle-client : (o : Option Client) → list_any (has_number m) (calls_in o) ≡ false
      → client_facts clock timeout me queued m o ≡ []
  idle-client None h = refl
  idle-client (Some x) h = idle-calls x x.calls h

-- nor do they where no clock says that a call timed out
module _ (clock timeout me : ℕ) (queued : List Queued) (m : ℕ) where
  waits-unless-late : (posted waiting late few : Bool) → (posted && true && late) ≡ false
      → cond (not (posted && not waiting && late)) Waits (cond few RollsBack Breaks) ≡ Waits
  waits-unless-late true true late few h = refl
  waits-unless-late true false true few h = cc
  waits-unless-late true false false few h = refl
  waits-unless-late false waiting late few h = refl

  early-progress : (x : Client) (number : ℕ) (o : Option Progress)
      → is_late_by clock timeout o ≡ false
      → progress_facts clock timeout me queued x number o ≡ []
  early-progress x number None h = refl
  early-progress x number (Some p) h =
      ap (row_facts me queued x number p)
      (waits-unless-late (ltb p.got p.posted) _ (leb timeout (clock - p.mark)) (ltb p.rolls 8) h)

  early-cons : (x : Client) (c : Call) (cs : List Call) (b more : Bool)
      → (is_late clock timeout c || more) ≡ false
      → (more ≡ false → call_facts clock timeout me queued x (find (is_call m) cs) ≡ [])
      → call_facts clock timeout me queued x (cond b (Some c) (find (is_call m) cs)) ≡ []
  early-cons x c cs true more h ih =
      early-progress x c.what.number c.progress (or-false (is_late clock timeout c) more h).0
  early-cons x c cs false more h ih = ih (or-false (is_late clock timeout c) more h).1

  early-calls : (x : Client) (cs : List Call) → list_any (is_late clock timeout) cs ≡ false
      → call_facts clock timeout me queued x (find (is_call m) cs) ≡ []
  early-calls x [] h = refl
  early-calls x (c ∷ cs) h =
      early-cons x c cs (is_call m c) (list_any (is_late clock timeout) cs) h (early-calls x cs)

  early-client : (o : Option Client)
      → IfSome o (λ x. false ≡ list_any (is_late clock timeout) x.calls)
      → client_facts clock timeout me queued m o ≡ []
  early-client None h = refl
  early-client (Some x) h = early-calls x x.calls (sym h)

pub early-watch : (timeout i m : ℕ) (s : Timed)
    → IfSome (slice_get s.lists.clients i) (λ x. false ≡ list_any (is_late s.clock timeout) x.calls)
    → Watches timeout i m s [] s
early-watch timeout i m s h = record {
  facts =
      sym (early-client s.clock timeout s.lists.me s.lists.queued m (slice_get s.lists.clients i) h);
  goes = refl;
}

pub idle-watch : (timeout i m : ℕ) (s : Timed) → any_active i m s.lists.clients ≡ false
    → Watches timeout i m s [] s
idle-watch timeout i m s h = record {
  facts =
      sym (idle-client s.clock timeout s.lists.me s.lists.queued m (slice_get s.lists.clients i) h);
  goes = refl;
}

-- where no call has the number
pub idle-unlisted : (m : ℕ) (cs : List Call) → list_any (is_call m) cs ≡ false
    → list_any (has_number m) cs ≡ false
idle-unlisted m [] h = refl
idle-unlisted m (c ∷ cs) h =
    unlisted-cons (is_call m c) (is_some c.progress) (list_any (is_call m) cs) h
    (idle-unlisted m cs)
  where
    unlisted-cons : {more : Bool} (b d rest : Bool) → (b || rest) ≡ false
        → (rest ≡ false → more ≡ false) → ((b && d) || more) ≡ false
    unlisted-cons true d rest h ih = cc
    unlisted-cons false d rest h ih = ih h

-- where no active call is above a number
module _ (after : Option ℕ) (m : ℕ) (up : above after m ≡ true) where
  above-own : (after : Option ℕ) (c : Call) → c.what.number ≡ m → is_above after c ≡ above after m
  above-own None c e = refl
  above-own (Some n) c e = ap (λ k. ltb n k) e

  past-cons : (c : Call) (b d u : Bool) (more : Bool) → is_call m c ≡ b → is_above after c ≡ u
      → (d && u) ≡ false → more ≡ false → ((b && d) || more) ≡ false
  past-cons c true true true more t a h ih = cc
  past-cons c true true false more t a h ih =
      let no : false ≡ true = sym a ∙ above-own after c (eqb-true c.what.number m t) ∙ up in cc
  past-cons c true false u more t a h ih = ih
  past-cons c false d u more t a h ih = ih

  none-cons : (c : Call) (b : Bool) (o : Option Call) → cond b (Some c) o ≡ None
      → (b ≡ false) × (o ≡ None)
  none-cons c true o e = cc
  none-cons c false o e = (refl, e)

  pub idle-past : (cs : List Call) → find (is_next after) cs ≡ None
      → list_any (has_number m) cs ≡ false
  idle-past [] e = refl
  idle-past (c ∷ cs) e =
      let split = none-cons c (is_next after c) (find (is_next after) cs) e in
      past-cons c (is_call m c) (is_some c.progress) (is_above after c) (list_any (has_number m) cs)
      refl refl split.0 (idle-past cs split.1)

  -- and below the first active one above it
  idle-higher : (k : ℕ) (cs : List Call) → m ≤ k → AllByRecursion (λ d. k < d.what.number) cs
      → list_any (has_number m) cs ≡ false
  idle-higher k [] low all = refl
  idle-higher k (c ∷ cs) low all =
      let here = all.0 in
      let other : eqb c.what.number m ≡ false = ne_eqb c.what.number m (λ t. omega arith) in
      rw other (idle-higher k cs low all.1)

  first-cons : (c d : Call) (cs : List Call) (b : Bool) → is_next after c ≡ b
      → AllByRecursion (λ e. c.what.number < e.what.number) cs
      → (find (is_next after) cs ≡ Some d → list_any (has_number m) cs ≡ false) → m < d.what.number
      → cond b (Some c) (find (is_next after) cs) ≡ Some d
      → list_any (has_number m) (c ∷ cs) ≡ false
  first-cons c d cs true t all ih low e =
      let same : c ≡ d = cc in
      let number : c.what.number ≡ d.what.number = ap (λ (x : Call). x.what.number) same in
      let other : eqb c.what.number m ≡ false = ne_eqb c.what.number m (λ t. omega arith) in
      rw other (idle-higher c.what.number cs (omega arith) all)
  first-cons c d cs false t all ih low e =
      past-cons c (is_call m c) (is_some c.progress) (is_above after c) (list_any (has_number m) cs)
      refl refl t (ih e)

  pub idle-below : (cs : List Call) (d : Call) → Ascends cs → find (is_next after) cs ≡ Some d
      → m < d.what.number → list_any (has_number m) cs ≡ false
  idle-below [] d order e low = refl
  idle-below (c ∷ cs) d order e low =
      first-cons c d cs (is_next after c) refl order.0 (λ h. idle-below cs d order.1 h low) low e

-- the next active call of a session
next-none : (after : Option ℕ) (o : Option Call) → option_map (λ c. c.what.number) o ≡ None
    → o ≡ None
next-none after None e = refl
next-none after (Some c) e = cc

pub none-next : (after : Option ℕ) (o : Option Client)
    → option_map (λ c. c.what.number) (option_and_then (λ x. find (is_next after) x.calls) o) ≡ None
    → find (is_next after) (calls_in o) ≡ None
none-next after None e = refl
none-next after (Some x) e = next-none after (find (is_next after) x.calls) e

pub record Next (after : Option ℕ) (n : ℕ) (calls : List Call) : Type 0 where
  pub call : Call
  pub found : find (is_next after) calls ≡ Some call
  pub number : call.what.number ≡ n

next-call : (after : Option ℕ) (n : ℕ) (cs : List Call) (o : Option Call)
    → find (is_next after) cs ≡ o → option_map (λ c. c.what.number) o ≡ Some n → Next after n cs
next-call after n cs None f e = cc
next-call after n cs (Some c) f e =
    let same : c.what.number ≡ n = cc in record { call = c; found = f; number = same }

pub some-next : (after : Option ℕ) (n : ℕ) (o : Option Client)
    → option_map (λ c. c.what.number) (option_and_then (λ x. find (is_next after) x.calls) o) ≡ Some
    n → Next after n (calls_in o)
some-next after n None e = cc
some-next after n (Some x) e = next-call after n x.calls (find (is_next after) x.calls) refl e

-- it is active, and above the number
next-above : (after : Option ℕ) (c : Call) → is_above after c ≡ above after c.what.number
next-above None c = refl
next-above (Some n) c = refl

pub next-passes : (after : Option ℕ) (n : ℕ) (cs : List Call) → Next after n cs
    → (above after n ≡ true) × (list_any (has_number n) cs ≡ true)
next-passes after n cs next =
    let (active, up) =
    both (is_some next.call.progress) (is_above after next.call)
    (find-passes (is_next after) cs next.call next.found) in
    let own : has_number n next.call ≡ true =
    rw (eq-eqb next.call.what.number n next.number, active) refl in (
      ap (λ k. above after k) (sym next.number) ∙ sym (next-above after next.call) ∙ up,
      found-any
          (is_next after) (has_number n) next.call cs next.found own,
    )

-- no fact of the timers makes a call active
module _ (i m : ℕ) where
  module _ (p : Client → Bool) (f : Client → Client)
      (keeps : (x : Client) → list_any (has_number m) x.calls ≡ false → list_any (has_number m)
      (f x).calls ≡ false) where
    first-idle : (j : ℕ) (y : Client) (ys : List Client) (b : Bool)
        → ((k : ℕ) → any_active k m ys ≡ false → any_active k m (at_first p f ys) ≡ false)
        → any_active j m (y ∷ ys) ≡ false
        → any_active j m (cond b (f y ∷ ys) (y ∷ at_first p f ys)) ≡ false
    first-idle zero y ys true ih h = keeps y h
    first-idle zero y ys false ih h = h
    first-idle (suc j) y ys true ih h = h
    first-idle (suc j) y ys false ih h = ih j h

    idle-first : (xs : List Client) (j : ℕ) → any_active j m xs ≡ false
        → any_active j m (at_first p f xs) ≡ false
    idle-first [] j h = h
    idle-first (y ∷ ys) j h = first-idle j y ys (p y) (idle-first ys) h

  some-mapped : {A : Type 0} (g : A → A) (o : Option A) → is_some (option_map g o) ≡ is_some o
  some-mapped g None = refl
  some-mapped g (Some x) = refl

  moved-cons : (p : Call → Bool) (g : Progress → Progress) (c : Call) (cs : List Call) (b : Bool)
      → list_any (has_number m) (at_first p (moved g) cs) ≡ list_any (has_number m) cs
      → list_any (has_number m) (cond b (moved g c ∷ cs) (c ∷ at_first p (moved g) cs)) ≡ list_any
      (has_number m) (c ∷ cs)
  moved-cons p g c cs true ih =
      ap (λ d. (is_call m c && d) || list_any (has_number m) cs) (some-mapped g c.progress)
  moved-cons p g c cs false ih = ap (λ d. has_number m c || d) ih

  idle-moved : (p : Call → Bool) (g : Progress → Progress) (cs : List Call)
      → list_any (has_number m) (at_first p (moved g) cs) ≡ list_any (has_number m) cs
  idle-moved p g [] = refl
  idle-moved p g (c ∷ cs) = moved-cons p g c cs (p c) (idle-moved p g cs)

  without-cons : (p : Call → Bool) (c : Call) (cs : List Call) (b : Bool)
      → list_any (has_number m) (c ∷ cs) ≡ false
      → (list_any (has_number m) cs ≡ false → list_any (has_number m) (without_first p cs) ≡ false)
      → list_any (has_number m) (cond b cs (c ∷ without_first p cs)) ≡ false
  without-cons p c cs true h ih = (or-false (has_number m c) (list_any (has_number m) cs) h).1
  without-cons p c cs false h ih =
      let split =
      or-false (has_number m c) (list_any (has_number m) cs) h in rw split.0 (ih split.1)

  idle-without : (p : Call → Bool) (cs : List Call) → list_any (has_number m) cs ≡ false
      → list_any (has_number m) (without_first p cs) ≡ false
  idle-without p [] h = refl
  idle-without p (c ∷ cs) h = without-cons p c cs (p c) h (idle-without p cs)

  abbrev Calm : Fact → Type 0
  Calm f =
      (clock : ℕ) → (head : Option MessageHeader) → (body : List ℕ) → (xs : List Client) →
      any_active i m xs ≡ false → any_active i m (clients_after clock f.event f.first head body xs)
      ≡ false

  calm-both : (xs ys : List Fact) → AllByRecursion Calm xs → AllByRecursion Calm ys
      → AllByRecursion Calm (xs ++ ys)
  calm-both [] ys p q = q
  calm-both (x ∷ xs) ys p q = (p.0, calm-both xs ys p.1 q)

  calm-flushes : (me : ℕ) (o : Owner) (ns : List ℕ)
      → AllByRecursion Calm (map (λ k. plain me (Flushed o k)) ns)
  calm-flushes me o [] = tt
  calm-flushes me o (k ∷ ns) = (λ clock head body xs h. h, calm-flushes me o ns)

  calm-call : (me session : ℕ) (queued : List Queued) (o : Option Progress)
      → AllByRecursion Calm (flushes_of me session queued o)
  calm-call me session queued None = tt
  calm-call me session queued (Some p) = calm-flushes me _ (numbers_of _ queued)

  calm-calls : (me session : ℕ) (queued : List Queued) (cs : List Call)
      → AllByRecursion Calm (flat_map (λ c. flushes_of me session queued c.progress) cs)
  calm-calls me session queued [] = tt
  calm-calls me session queued (c ∷ cs) =
      calm-both (flushes_of me session queued c.progress) _ (calm-call me session queued c.progress)
      (calm-calls me session queued cs)

  calm-ends : (me : ℕ) (cs : List Call)
      → AllByRecursion Calm (map (λ c. plain me (DonePeerLost c.what.number)) cs)
  calm-ends me [] = tt
  calm-ends me (c ∷ cs) =
      let n = c.what.number in (
        λ clock head body xs h. idle-first (has_call n) (ends n)
            (λ x. idle-without (is_call n) x.calls) xs i h,
        calm-ends me cs,
      )

  calm-broken : (me session : ℕ) → Calm (plain me (Broken session))
  calm-broken me session =
      λ clock head body xs h. idle-first (is_client session) breaks (λ x g. g) xs i h

  calm-rolled : (me number posted got : ℕ) → Calm (plain me (Rolled number posted got))
  calm-rolled me number posted got =
      λ clock head body xs h. idle-first (has_call number) (rolls number posted got)
      (λ x g. idle-moved (is_call number) (rolled_back got) x.calls ∙ g) xs i h

  calm-row : (me : ℕ) (queued : List Queued) (x : Client) (number : ℕ) (p : Progress)
      (row : TimerRow) → AllByRecursion Calm (row_facts me queued x number p row)
  calm-row me queued x number p Waits = tt
  calm-row me queued x number p RollsBack =
      calm-both _ _ (calm-flushes me _ (numbers_of _ queued))
      (calm-rolled me number p.posted p.got, tt)
  calm-row me queued x number p Breaks =
      calm-both _ _ (calm-calls me x.way.number queued x.calls)
      (calm-broken me x.way.number, calm-ends me x.calls)

  module _ (clock timeout me : ℕ) (queued : List Queued) where
    calm-progress : (x : Client) (number : ℕ) (o : Option Progress)
        → AllByRecursion Calm (progress_facts clock timeout me queued x number o)
    calm-progress x number None = tt
    calm-progress x number (Some p) =
        calm-row me queued x number p (row_of clock timeout x.way.number queued p)

    calm-found : (x : Client) (o : Option Call)
        → AllByRecursion Calm (call_facts clock timeout me queued x o)
    calm-found x None = tt
    calm-found x (Some c) = calm-progress x c.what.number c.progress

    calm-client : (number : ℕ) (o : Option Client)
        → AllByRecursion Calm (client_facts clock timeout me queued number o)
    calm-client number None = tt
    calm-client number (Some x) = calm-found x (find (is_call number) x.calls)

  idle-all : (clock : ℕ) (s : Lists) (fs : List Fact) → AllByRecursion Calm fs
      → any_active i m s.clients ≡ false → any_active i m (after_all clock s fs).clients ≡ false
  idle-all clock s [] calm h = h
  idle-all clock s (f ∷ fs) calm h =
      idle-all clock (after clock s f) fs calm.1
      (calm.0 clock (front_header s.ring) (front_body s.ring) s.clients h)

  pub idle-watched : (timeout n : ℕ) (s t : Timed) (x : List Fact) → Watches timeout i n s x t
      → any_active i m s.lists.clients ≡ false → any_active i m t.lists.clients ≡ false
  idle-watched timeout n s t x w h =
      let calm =
      calm-client s.clock timeout s.lists.me s.lists.queued n (slice_get s.lists.clients i) in
      rw (w.goes, w.facts) (idle-all s.clock s.lists _ calm h)
