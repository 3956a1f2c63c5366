-- What is told of a session that is there.
use Rattle.std.proofs.Common.{◌≡◌, ◌≢◌, ℕ, ◌<◌, inl, inr, ltb, Bool, true, false, cond, Some}
use Rattle.std.proofs.Common.{None, List, [], ◌∷◌, length, refl, sym, ap, ◌∙◌, arith}
use Rattle.std.specs.Prelude.{IfSome, map, slice_get}
use Rattle.std.proofs.lemmas.Option.{slice_get_cases}
use Rattle.rpc_base.specs.declared.state.SessionState.{SessionState}
use Rattle.rpc_base.specs.declared.state.SessionState.TheVariants.{Connected, Spent, Broken as IsBroken}
use Rattle.rpc_base.specs.declared.state.SessionState.TheVariants.{Unknown, Connecting, Closing}
use Rattle.rpc_base.specs.declared.state.SessionState.TheVariants.{Closed, Failed}
use Rattle.packet_rings.specs.Values.{DatagramValue}
use Rattle.rpc_base.specs.declared.limits.TheConstants.{MOST_CALLS}
use Rattle.rpc_laws.specs.Groups.{state_of, told_state}
use Rattle.rpc_laws.specs.declared.tables.Client.{Client}
use Rattle.node_steps.specs.Status.{free_told, has_credits, pending_told}
use Rattle.node_steps.specs.Seen.{arrival_of}

pub there : (xs : List Client) (i : ℕ) → i < length xs → (x : Client) × (slice_get xs i ≡ Some x)
there xs i within = elim ((slice_get_cases xs i).1) [
  | inl h ↦ (h.0, h.2)
  | inr h ↦ absurd (omega (arith, within, h.0))
]

pub pending-there : (xs : List Client) (i n : ℕ) → i < length xs
    → IfSome (slice_get xs i) (λ x. n ≡ length x.calls) → n ≡ pending_told (slice_get xs i)
pending-there xs i n within h =
    let at = there xs i within in
    let own : n ≡ length (at.0).calls = rw at.1 at h in
    rw at.1 own

-- the free credits of a session are told where it is connected, Spent or not, or closing
pub told-credits : (state : SessionState) (asked : ℕ)
    → has_credits (told_state state asked) ≡ has_credits state
told-credits Connected asked = by (ltb asked MOST_CALLS)
  where
    by : (few : Bool) → has_credits (cond few Connected Spent) ≡ true
    by true = refl
    by false = refl
told-credits Spent asked = refl
told-credits IsBroken asked = refl
told-credits Unknown asked = refl
told-credits Connecting asked = refl
told-credits Closing asked = refl
told-credits Closed asked = refl
told-credits Failed asked = refl

module _ (xs : List Client) (i n : ℕ) (state : SessionState) (within : i < length xs)
    (is : state ≡ state_of (slice_get xs i)) where
  credits-there : (b : Bool) → has_credits state ≡ b → has_credits ((there xs i within).0).state ≡ b
  credits-there b h =
      let at = there xs i within in
      sym (told-credits (at.0).state (at.0).asked)
      ∙ ap has_credits (sym (is ∙ ap state_of at.1)) ∙ h

  pub free-there : IfSome (slice_get xs i) (λ x. n ≡ x.free) → has_credits state ≡ true
      → Some n ≡ free_told (slice_get xs i)
  free-there h some =
      let at = there xs i within in
      let own : n ≡ (at.0).free = rw at.1 at h in
      rw (at.1, credits-there true some, own) refl

  pub none-free : has_credits state ≡ false → None ≡ free_told (slice_get xs i)
  none-free none =
      let at = there xs i within in
      rw (at.1, credits-there false none) refl

-- a state that is none of these
pub no-credits : (state : SessionState) → state ≢ Connected → state ≢ Spent → state ≢ Closing
    → has_credits state ≡ false
no-credits Connected a b c = absurd (a refl)
no-credits Spent a b c = absurd (b refl)
no-credits Closing a b c = absurd (c refl)
no-credits IsBroken a b c = refl
no-credits Unknown a b c = refl
no-credits Connecting a b c = refl
no-credits Closed a b c = refl
no-credits Failed a b c = refl

pub no-arrivals : (ds : List DatagramValue) → map arrival_of ds ≡ [] → ds ≡ []
no-arrivals [] h = refl
no-arrivals (d ∷ ds) h = cc
