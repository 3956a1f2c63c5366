-- What the facts tell of a call stays told, where a fact doesn't concern it.
use Rattle.std.proofs.Common.{◌≡◌, ℕ, ◌+◌, Bool, true, false, ◌&&◌, cond, Option, Some, None, List}
use Rattle.std.proofs.Common.{◌∷◌, refl, sym, ap, subst, ◌∙◌, inl, inr, arith}
use Rattle.std.specs.Prelude.{◌==◌, ◌⊎◌, count_by}
use Rattle.std.specs.List.{find, list_any}
use Rattle.std.proofs.lemmas.Bool.{eqb-true, eq-eqb, ne_eqb, and_parts, or_right, cases_eq}
use Rattle.std.proofs.lemmas.List.Sums.{sum_by-cons}
use Rattle.rpc_base.specs.Tables.{at_first}
use Rattle.rpc_base.specs.declared.event.Event.{Event}
use Rattle.rpc_base.specs.declared.event.Event.TheVariants.{Begun, Posted, Took, Rolled}
use Rattle.rpc_base.specs.declared.fact.Fact.{Fact}
use Rattle.rpc_base.specs.declared.owner.Owner.TheVariants.{Ask}
use Rattle.rpc_laws.specs.declared.tables.Call.{Call}
use Rattle.rpc_laws.specs.declared.tables.Client.{Client}
use Rattle.rpc_laws.specs.declared.tables.Lists.{Lists}
use Rattle.rpc_laws.specs.declared.tables.Progress.{Progress}
use Rattle.rpc_laws.specs.Calls.{is_call, is_active}
use Rattle.rpc_laws.specs.Front.{front_body, front_header}
use Rattle.rpc_laws.specs.Sessions.{is_client, has_call}
use Rattle.node_laws.specs.CallHistory.{takes_of, posted_next, posted_by, rolls_next, rolls_by, TellsActive}
use Rattle.node_laws.specs.CallHistory.{told_size, told_parts, size_by, parts_by}
use Rattle.node_laws.specs.RequestHistory.{ring_by}
use Rattle.node_laws.specs.EndedCalls.{asks_on, begins_as}
use Rattle.rpc_base.proofs.FindLemmas.{this-changed}
use Rattle.node_laws.proofs.NumberLemmas.{by_number}
use Rattle.node_laws.proofs.SoundLemmas.{by_request}
use Rattle.rpc_base.proofs.FirstLemmas.{found-holds, found-changed}
use Rattle.node_laws.proofs.Places.{Place}
use Rattle.node_laws.specs.Valid.{Sound, Valid}
use Rattle.node_laws.proofs.WindowLemmas.{same-found}
use Rattle.rpc_base.proofs.TakingLemmas.{find-passes}

-- whether a fact concerns call c of session n, with request r
abbrev pub concerns : ℕ → ℕ → ℕ → Event → Bool
concerns c n r (Begun call request) = call == c
concerns c n r (Posted (Ask session request) k) = session == n && request == r
concerns c n r (Took (Ask session request) k) = session == n && request == r
concerns c n r (Rolled call posted got) = call == c
concerns c n r _ = false

takes-off : (c n r : ℕ) (e : Event) → concerns c n r e ≡ false → takes_of n r e ≡ false
takes-off c n r (Took (Ask session request) k) h = h
takes-off c n r _ h = refl

posted-off : (c n r : ℕ) (e : Event) (m : ℕ) → concerns c n r e ≡ false → posted_next c n r e m ≡ m
posted-off c n r (Begun call request) m h = rw h refl
posted-off c n r (Posted (Ask session request) k) m h = rw h refl
posted-off c n r (Rolled call posted got) m h = rw h refl
posted-off c n r _ m h = refl

rolls-off : (c n r : ℕ) (e : Event) (m : ℕ) → concerns c n r e ≡ false → rolls_next c n r e m ≡ m
rolls-off c n r (Begun call request) m h = rw h refl
rolls-off c n r (Took (Ask session request) k) m h = rw h refl
rolls-off c n r (Rolled call posted got) m h = rw h refl
rolls-off c n r _ m h = refl

-- one more fact in a count
pub count-new : (test : Event → Bool) (f : Fact) (past : List Fact) (b : Bool) → test f.event ≡ b
    → count_by (λ e. test e.event) (f ∷ past) ≡ cond b 1 0 + count_by (λ e. test e.event) past
count-new test f past b e =
    sum_by-cons (λ g. cond (test g.event) 1 0) f past
    ∙ ap (λ c. cond c 1 0 + count_by (λ g. test g.event) past) e

-- a reply that is of the request, and a fact that isn't
pub size-new : (n r : ℕ) (f : Fact) (past : List Fact) (b : Bool) → takes_of n r f.event ≡ b
    → size_by n r (f ∷ past)
    ≡ cond b (told_size (front_header (ring_by past)) (size_by n r past)) (size_by n r past)
size-new n r f past b e =
    ap (λ c. cond c (told_size (front_header (ring_by past)) (size_by n r past)) (size_by n r past)) e

pub parts-new : (n r : ℕ) (f : Fact) (past : List Fact) (b : Bool) → takes_of n r f.event ≡ b
    → parts_by n r (f ∷ past)
    ≡ cond b (told_parts (front_header (ring_by past)) (front_body (ring_by past)) (parts_by n r past))
    (parts_by n r past)
parts-new n r f past b e =
    ap (λ c. cond c (told_parts (front_header (ring_by past)) (front_body (ring_by past))
    (parts_by n r past)) (parts_by n r past)) e

active-stays : (past : List Fact) (f : Fact) (c n : ℕ) (p : Progress)
    → concerns c n p.request f.event ≡ false → TellsActive past c n p → TellsActive (f ∷ past) c n p
active-stays past f c n p h t = record {
  begun = or_right (begins_as c p.request f.event) (list_any (λ g. begins_as c p.request g.event) past) t.begun;
  got =
      let count = count-new (takes_of n p.request) f past false (takes-off c n p.request f.event h) in
      let was = t.got in
      omega arith;
  posted = t.posted ∙ sym (posted-off c n p.request f.event (posted_by c n p.request past) h);
  rolls = t.rolls ∙ sym (rolls-off c n p.request f.event (rolls_by c n p.request past) h);
  answer = t.answer ∙ sym (size-new n p.request f past false (takes-off c n p.request f.event h));
  parts = t.parts ∙ sym (parts-new n p.request f past false (takes-off c n p.request f.event h));
}

-- of a call that is found
abbrev pub ToldProgress : List Fact → ℕ → ℕ → Option Progress → Type 0
ToldProgress past c n None = Unit {0}
ToldProgress past c n (Some p) = TellsActive past c n p

-- that it was asked, and its progress
abbrev pub ToldCall : List Fact → ℕ → ℕ → Option Call → Type 0
ToldCall past c n None = Unit {0}
ToldCall past c n (Some d) = (list_any (λ f. asks_on c n f.event) past ≡ true) × ToldProgress past c n d.progress

-- the same of a session that is found
abbrev pub Told : List Fact → ℕ → ℕ → Option Client → Type 0
Told past c n None = Unit {0}
Told past c n (Some x) = ToldCall past c n (find (is_call c) x.calls)

progress-stays : (past : List Fact) (f : Fact) (c n : ℕ) (o : Option Progress)
    → ((p : Progress) → o ≡ Some p → concerns c n p.request f.event ≡ false)
    → ToldProgress past c n o → ToldProgress (f ∷ past) c n o
progress-stays past f c n None h t = tt
progress-stays past f c n (Some p) h t = active-stays past f c n p (h p refl) t

pub call-stays : (past : List Fact) (f : Fact) (c n : ℕ) (o : Option Call)
    → ((d : Call) (p : Progress) → o ≡ Some d → d.progress ≡ Some p
    → concerns c n p.request f.event ≡ false) → ToldCall past c n o → ToldCall (f ∷ past) c n o
call-stays past f c n None h t = tt
call-stays past f c n (Some d) h t = (
  or_right (asks_on c n f.event) (list_any (λ g. asks_on c n g.event) past) t.0,
  progress-stays past f c n d.progress (λ p e. h d p refl e) t.1,
)

pub told-stays : (past : List Fact) (f : Fact) (c n : ℕ) (o : Option Client)
    → ((x : Client) (d : Call) (p : Progress) → o ≡ Some x → find (is_call c) x.calls ≡ Some d
    → d.progress ≡ Some p → concerns c n p.request f.event ≡ false) → Told past c n o
    → Told (f ∷ past) c n o
told-stays past f c n None h t = tt
told-stays past f c n (Some x) h t = call-stays past f c n (find (is_call c) x.calls) (λ d p e g. h x d p refl e g) t

-- a change of call c of session m, and of nothing else
pub record Focus (xs ys : List Client) (m : ℕ) (y z : Client) (c : ℕ) (d e : Call) : Type 0 where
  pub old : find (is_client m) xs ≡ Some y
  pub new : find (is_client m) ys ≡ Some z
  pub far : (n : ℕ) → (n ≡ m → ⊥) → find (is_client n) ys ≡ find (is_client n) xs
  pub own_old : find (is_call c) y.calls ≡ Some d
  pub own_new : find (is_call c) z.calls ≡ Some e
  pub others : (k : ℕ) → (k ≡ c → ⊥) → find (is_call k) z.calls ≡ find (is_call k) y.calls

pub focus-of : (xs : List Client) (p : Client → Bool) (f : Client → Client) (m : ℕ) (y : Client)
    (test : Call → Bool) (g : Call → Call) (c : ℕ) (d : Call) → find p xs ≡ Some y
    → find (is_client m) xs ≡ Some y → (f y).way.number ≡ y.way.number
    → (f y).calls ≡ at_first test g y.calls → find test y.calls ≡ Some d
    → find (is_call c) y.calls ≡ Some d → (g d).what.number ≡ d.what.number
    → Focus xs (at_first p f xs) m y (f y) c d (g d)
focus-of xs p f m y test g c d found old way calls tested own same =
    let number : y.way.number ≡ m = eqb-true y.way.number m (find-passes (is_client m) xs y old) in
    let call : d.what.number ≡ c = eqb-true d.what.number c (find-passes (is_call c) y.calls d own) in
    let passes : is_client m (f y) ≡ true = eq-eqb (f y).way.number m (way ∙ number) in
    let called : is_call c (g d) ≡ true = eq-eqb (g d).what.number c (same ∙ call) in
    record {
      old = old;
      new = found-changed p f (is_client m) y xs passes found old;
      far = λ n other.
          let no_old : is_client n y ≡ false = ne_eqb y.way.number n (λ e. other (sym (sym number ∙ e))) in
          let no_new : is_client n (f y) ≡ false =
          ne_eqb (f y).way.number n (λ e. other (sym (sym number ∙ (sym way ∙ e)))) in
          this-changed p (is_client n) y f xs no_old no_new found;
      own_old = own;
      own_new = rw calls (found-changed test g (is_call c) d y.calls called tested own);
      others = λ k other.
          let no_old : is_call k d ≡ false = ne_eqb d.what.number k (λ e. other (sym (sym call ∙ e))) in
          let no_new : is_call k (g d) ≡ false =
          ne_eqb (g d).what.number k (λ e. other (sym (sym call ∙ (sym same ∙ e)))) in
          rw calls (this-changed test (is_call k) d g y.calls no_old no_new tested);
    }

module _ (past : List Fact) (f : Fact) (xs ys : List Client) (m : ℕ) (y z : Client) (c : ℕ)
    (d e : Call) (focus : Focus xs ys m y z c d e)
    (own : ToldCall past c m (Some d) → ToldCall (f ∷ past) c m (Some e)) where
  -- that the fact concerns no other call
  abbrev pub Away : ℕ → ℕ → Type 0
  Away k n = (x : Client) (b : Call) (p : Progress) → find (is_client n) xs ≡ Some x
      → find (is_call k) x.calls ≡ Some b → b.progress ≡ Some p → (n ≡ m → k ≡ c → ⊥)
      → concerns k n p.request f.event ≡ false

  here-told : (k n : ℕ) → n ≡ m → k ≡ c → Told past k n (find (is_client n) xs)
      → Told (f ∷ past) k n (find (is_client n) ys)
  here-told k n session call t =
      let at : Told past c m (find (is_client m) xs) = rw (← session, ← call) t in
      let was : ToldCall past c m (find (is_call c) y.calls) = rw focus.old at at in
      let told : ToldCall past c m (Some d) = rw focus.own_old at was in
      rw (session, call, focus.new, focus.own_new) (own told)

  beside-told : (k n : ℕ) → Away k n → n ≡ m → (k ≡ c → ⊥) → Told past k n (find (is_client n) xs)
      → Told (f ∷ past) k n (find (is_client n) ys)
  beside-told k n away session other t =
      let old : find (is_client n) xs ≡ Some y = rw session focus.old in
      let new : find (is_client n) ys ≡ Some z = rw session focus.new in
      let was : ToldCall past k n (find (is_call k) y.calls) = rw old at t in
      rw (new, focus.others k other) (call-stays past f k n (find (is_call k) y.calls)
      (λ b p h g. away y b p old h g (λ _ same. other same)) was)

  by-call : (k n : ℕ) → Away k n → n ≡ m → (k ≡ c) ⊎ (k ≡ c → ⊥)
      → Told past k n (find (is_client n) xs) → Told (f ∷ past) k n (find (is_client n) ys)
  by-call k n away session (inl call) t = here-told k n session call t
  by-call k n away session (inr other) t = beside-told k n away session other t

  by-session : (k n : ℕ) → Away k n → (n ≡ m) ⊎ (n ≡ m → ⊥) → Told past k n (find (is_client n) xs)
      → Told (f ∷ past) k n (find (is_client n) ys)
  by-session k n away (inl session) t = by-call k n away session (cases_eq k c) t
  by-session k n away (inr other) t =
      rw (focus.far n other) (told-stays past f k n (find (is_client n) xs)
      (λ x b p h g i. away x b p h g i (λ same _. other same)) t)

  pub focus-told : (k n : ℕ) → Away k n → Told past k n (find (is_client n) xs)
      → Told (f ∷ past) k n (find (is_client n) ys)
  focus-told k n away t = by-session k n away (cases_eq n m) t

-- no other call has its request, or its number
module _ (s : Lists) (v : Valid s) (m : ℕ) (y : Client) (d : Call) (place : Place s.clients m y d)
    (k n : ℕ) (x : Client) (b : Call) (p : Progress)
    (client : find (is_client n) s.clients ≡ Some x) (call : find (is_call k) x.calls ≡ Some b)
    (active : b.progress ≡ Some p) (apart : n ≡ m → k ≡ d.what.number → ⊥) where
  pub other-request : (r : ℕ) → find (is_active r) y.calls ≡ Some d → (c : Bool)
      → (m == n && r == p.request) ≡ c → c ≡ false
  other-request r own false e = refl
  other-request r own true e =
      let parts = and_parts (m == n) (r == p.request) e in
      let session : m ≡ n = eqb-true m n parts.0 in
      let request : r ≡ p.request = eqb-true r p.request parts.1 in
      let found : find (is_client n) s.clients ≡ Some y = rw session at place.client in
      let same : x ≡ y = same-found (find (is_client n) s.clients) x y client found in
      let sound = found-holds (is_client n) Sound s.clients x v.sound client in
      let first : find (is_active p.request) x.calls ≡ Some b = by_request x (is_call k) b p sound call active in
      let second : find (is_active p.request) y.calls ≡ Some d = rw request at own in
      let third : find (is_active p.request) y.calls ≡ Some b = rw same at first in
      let equal : b ≡ d = same-found (find (is_active p.request) y.calls) b d third second in
      let number : b.what.number ≡ k = eqb-true b.what.number k (find-passes (is_call k) x.calls b call) in
      absurd (apart (sym session) (sym number ∙ ap (λ (i : Call). i.what.number) equal))

  pub other-number : (c : Bool) → (d.what.number == k) ≡ c → c ≡ false
  other-number false e = refl
  other-number true e =
      let same : d.what.number ≡ k = eqb-true d.what.number k e in
      let own = by_number s m y d v place in
      let number : b.what.number ≡ k = eqb-true b.what.number k (find-passes (is_call k) x.calls b call) in
      let there : Place s.clients n x b = record { test = is_call k; client = client; call = call } in
      let theirs = by_number s n x b v there in
      let first : find (has_call k) s.clients ≡ Some x =
      subst (λ (i : ℕ). find (has_call i) s.clients ≡ Some x) number theirs.client in
      let second : find (has_call k) s.clients ≡ Some y =
      subst (λ (i : ℕ). find (has_call i) s.clients ≡ Some y) same own.client in
      let equal : x ≡ y = same-found (find (has_call k) s.clients) x y first second in
      let mine : y.way.number ≡ m = eqb-true y.way.number m (find-passes (is_client m) s.clients y place.client) in
      let yours : x.way.number ≡ n = eqb-true x.way.number n (find-passes (is_client n) s.clients x client) in
      absurd (apart (sym yours ∙ (ap (λ (i : Client). i.way.number) equal ∙ mine)) (sym same))
