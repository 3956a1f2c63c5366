-- Each session and each call of a node stands at a place of its own.
use Rattle.std.proofs.Common.{◌≡◌, ◌≤◌, ◌%◌, ◌==◌, ◌||◌, ℕ, Bool, true, false, cond, List, [], ◌∷◌}
use Rattle.std.proofs.Common.{Some}
use Rattle.std.proofs.Common.{slice_get, refl, sym, ap, ◌∙◌, eq-eqb, arith}
use Rattle.std.specs.Prelude.{count_by, sum_by}
use Rattle.std.specs.List.{find, list_any, slice_set}
use Rattle.std.proofs.lemmas.Bool.{eqb-true}
use Rattle.rpc_base.proofs.BasicLemmas.{or-right}
use Rattle.rpc_base.proofs.FirstLemmas.{count-fewer}
use Rattle.rpc_base.specs.Tables.{at_first}
use Rattle.rpc_base.proofs.PlaceLemmas.{all-at}
use Rattle.rpc_laws.specs.declared.tables.Call.{Call}
use Rattle.rpc_laws.specs.declared.tables.Client.{Client}
use Rattle.rpc_laws.specs.declared.tables.Lists.{Lists}
use Rattle.rpc_laws.specs.Calls.{is_active, is_call}
use Rattle.rpc_laws.specs.Posting.{holds_slot}
use Rattle.rpc_laws.specs.Sessions.{is_client, has_call}
use Rattle.node_laws.specs.Valid.{Valid, Sound, client_no}
use Rattle.node_laws.proofs.NumberLemmas.{numbered-at}
use Rattle.node_laws.proofs.SoundLemmas.{active-holds}
use Rattle.end_laws.proofs.ListLemmas.{find-at, set-first}
use Rattle.end_laws.proofs.SlotLemmas.{find-any}
use Rattle.stall_laws.proofs.OnePlace.{sum-two, sum-here, one-place, count-here}

-- a session has the number of a call that is found in it
pub found-number : (p : Call → Bool) (cs : List Call) (c : Call) → find p cs ≡ Some c
    → list_any (is_call c.what.number) cs ≡ true
found-number p [] c e = cc
found-number p (b ∷ cs) c e = step (p b) e (found-number p cs c)
  where
    step : (t : Bool) → cond t (Some b) (find p cs) ≡ Some c
        → (find p cs ≡ Some c → list_any (is_call c.what.number) cs ≡ true)
        → (b.what.number == c.what.number || list_any (is_call c.what.number) cs) ≡ true
    step true e ih =
        let same : b ≡ c = cc in
        rw (eq-eqb b.what.number c.what.number (ap (λ (d : Call). d.what.number) same)) refl
    step false e ih = or-right (b.what.number == c.what.number) _ (ih e)

module _ (l : Lists) (v : Valid l) where
  -- sessions and calls have places of their own
  pub number-at : (s : ℕ) (x : Client) → slice_get l.clients s ≡ Some x → x.way.number ≡ s
  number-at s x there = let own = numbered-at client_no 0 s l.clients x v.numbered there in omega arith

  pub one-session : (m s : ℕ) (x : Client) → slice_get l.clients s ≡ Some x → is_client m x ≡ true
      → (t : ℕ) (y : Client) → slice_get l.clients t ≡ Some y → is_client m y ≡ true → t ≡ s
  one-session m s x there own t y at same =
      let one = number-at s x there in
      let two = number-at t y at in
      sym two ∙ (eqb-true y.way.number m same ∙ (sym (eqb-true x.way.number m own) ∙ one))

  -- how many calls of a session have a number
  abbrev pub counted : ℕ → Client → ℕ
  counted c x = count_by (is_call c) x.calls

  pub few-calls : (c : ℕ) → sum_by (counted c) l.clients ≤ 1
  few-calls c = let once = v.once c in omega arith

  -- a session of which a call has this number
  pub has-counted : (c : ℕ) (x : Client) → has_call c x ≡ true → 1 ≤ counted c x
  has-counted c x t =
      let found = find-any (is_call c) x.calls t in
      let at = find-at (is_call c) x.calls found.0 found.1 in
      count-here (is_call c) x.calls at.0 found.0 at.1 at.2

  pub one-owner : (c s : ℕ) (x : Client) → slice_get l.clients s ≡ Some x → 1 ≤ counted c x → (t : ℕ)
      (y : Client) → slice_get l.clients t ≡ Some y → 1 ≤ counted c y → t ≡ s
  one-owner c s x there own t y at same = sum-two (counted c) l.clients (few-calls c) t s y x at same there own

  pub one-call : (c s : ℕ) (x : Client) → slice_get l.clients s ≡ Some x → (j m : ℕ) (b e : Call)
      → slice_get x.calls j ≡ Some b → is_call c b ≡ true → slice_get x.calls m ≡ Some e
      → is_call c e ≡ true → j ≡ m
  one-call c s x there j m b e is_b t is_e y =
      let few = few-calls c in
      let le = sum-here (counted c) l.clients s x there in
      one-place (is_call c) x.calls (omega arith) j m b e is_b t is_e y

  pub one-active : (r s : ℕ) (x : Client) → slice_get l.clients s ≡ Some x → (j m : ℕ) (b e : Call)
      → slice_get x.calls j ≡ Some b → is_active r b ≡ true → slice_get x.calls m ≡ Some e
      → is_active r e ≡ true → j ≡ m
  one-active r s x there j m b e is_b t is_e y =
      let sound = all-at Sound l.clients s x v.sound there in
      let few = sound.apart (r % 8) in
      let fewer = count-fewer (is_active r) (λ (q : Call). holds_slot (r % 8) q.progress)
      (λ q z. active-holds r q.progress z) x.calls in
      one-place (is_active r) x.calls (omega arith) j m b e is_b t is_e y

  -- the session of a number changes
  pub client-set : (m : ℕ) (x : Client) (change : Client → Client)
      → find (is_client m) l.clients ≡ Some x → (s : ℕ) × (slice_get l.clients s ≡ Some x) × (s ≡ m)
      × (at_first (is_client m) change l.clients ≡ slice_set l.clients s (change x))
  client-set m x change found =
      let at = find-at (is_client m) l.clients x found in
      let place = number-at at.0 x at.1 in (
        at.0,
        at.1,
        sym place ∙ eqb-true x.way.number m at.2,
        set-first (is_client m) change l.clients at.0 x at.1 at.2
            (λ t y there same. one-session m at.0 x at.1 at.2 t y there same),
      )

  -- and that of a call
  pub owner-set : (c : ℕ) (x : Client) (change : Client → Client)
      → find (has_call c) l.clients ≡ Some x → (s : ℕ) × (slice_get l.clients s ≡ Some x)
      × (1 ≤ counted c x)
      × (at_first (has_call c) change l.clients ≡ slice_set l.clients s (change x))
  owner-set c x change found =
      let at = find-at (has_call c) l.clients x found in
      let own = has-counted c x at.2 in (
        at.0,
        at.1,
        own,
        set-first (has_call c) change l.clients at.0 x at.1 at.2
            (λ t y there same. one-owner c at.0 x at.1 own t y there (has-counted c y same)),
      )

  -- the session at a place, of which a call has a number, changes
  pub owner-at : (c s : ℕ) (x : Client) (change : Client → Client) → slice_get l.clients s ≡ Some x
      → has_call c x ≡ true → at_first (has_call c) change l.clients ≡ slice_set l.clients s (change x)
  owner-at c s x change there own =
      set-first (has_call c) change l.clients s x there own
      (λ t y at same. one-owner c s x there (has-counted c x own) t y at (has-counted c y same))
