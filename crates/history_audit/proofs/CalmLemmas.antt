-- Whether a history is rough, and whether packets of calls find room, a fact later.
use Rattle.std.proofs.Common.{◌≡◌, ℕ, ◌||◌, not, Bool, true, false, List, [], ◌∷◌, ◌++◌, refl, sym, ap, ◌∙◌}
use Rattle.std.proofs.Common.{Option, Some, None, IsSome, true≢false}
use Rattle.std.specs.Prelude.{◌↔◌, is_some}
use Rattle.std.specs.List.{list_any}
use Rattle.std.proofs.lemmas.List.Folds.{list_any-append}
use Rattle.packet_header.specs.Reading.{message_of}
use Rattle.packet_header.specs.declared.packet.MessageHeader.{MessageHeader}
use Rattle.rpc_base.specs.declared.event.Event.{Event}
use Rattle.rpc_base.specs.declared.event.Event.TheVariants.{Overflowed}
use Rattle.rpc_base.specs.declared.fact.Fact.{Fact}
use Rattle.rpc_base.specs.declared.fact.Who.{Who}
use Rattle.rpc_base.specs.declared.fact.Who.TheVariants.{Node, Net}
use Rattle.rpc_laws.specs.Endpoints.{Lived, told}
use Rattle.ring_laws.specs.CalmRing.{Calm, FitsAt, is_rough, MessagesFit}
use Rattle.call_book.proofs.EachLemmas.{each-last, each-next}
use Rattle.call_book.specs.SoFar.{so_far_from}
use Rattle.history_audit.specs.Calm.{finds_full, IsRough}

any-next : {A : Type 0} (p : A → Bool) (xs : List A) (x : A) → list_any p (xs ++ x ∷ []) ≡ (p x || list_any p xs)
any-next p xs x = list_any-append p xs (x ∷ []) ∙ by (list_any p xs) (p x)
  where
    by : (a b : Bool) → (a || (b || false)) ≡ (b || a)
    by true true = refl
    by true false = refl
    by false true = refl
    by false false = refl

swap : (a b c : Bool) → ((a || b) || c) ≡ (b || (a || c))
swap true true c = refl
swap true false c = refl
swap false b c = refl

rough-past : (past : List Lived) (h : List Fact)
    → list_any (λ f. is_rough f.fact.event) (so_far_from past h)
    ≡ (list_any (λ f. is_rough f.fact.event) past || list_any (λ f. is_rough f.event) h)
rough-past past [] = or-none (list_any (λ (f : Lived). is_rough f.fact.event) past)
  where
    or-none : (b : Bool) → b ≡ (b || false)
    or-none true = refl
    or-none false = refl
rough-past past (f ∷ h) =
    rough-past (told past f ∷ past) h
    ∙ swap (is_rough f.event) (list_any (λ (f : Lived). is_rough f.fact.event) past)
    (list_any (λ (f : Fact). is_rough f.event) h)

-- a fact more
pub rough-next : (rough : Bool) (h : List Fact) (f : Fact) → IsRough rough h
    → IsRough (is_rough f.event || rough) (h ++ f ∷ [])
rough-next rough h f e =
    any-next (λ (g : Fact). is_rough g.event) h f ∙ ap (λ (b : Bool). is_rough f.event || b) e

module _ (rough : Bool) (h : List Fact) (f : Fact) (e : IsRough rough h) (m : MessagesFit h) where
  calm-is : list_any (λ (g : Lived). is_rough g.fact.event) (so_far_from [] h) ≡ rough
  calm-is = rough-past [] h ∙ e

  -- a packet of a call finds a full ring
  some-fit : (o : Option MessageHeader) (r : Bool)
      → list_any (λ (g : Lived). is_rough g.fact.event) (so_far_from [] h) ≡ r → (r || not (is_some o)) ≡ true
      → IsSome o → Calm (so_far_from [] h) → ⊥
  some-fit o true is e some calm = true≢false (sym is ∙ calm)
  some-fit None false is e some calm = true≢false (sym some)
  some-fit (Some x) false is e some calm = true≢false (sym e)

  fit-some : (o : Option MessageHeader) (r : Bool)
      → list_any (λ (g : Lived). is_rough g.fact.event) (so_far_from [] h) ≡ r
      → (IsSome o → Calm (so_far_from [] h) → ⊥) → (r || not (is_some o)) ≡ true
  fit-some o true is fits = refl
  fit-some None false is fits = refl
  fit-some (Some x) false is fits = absurd (fits refl is)

  or-true : (b : Bool) → (b || true) ≡ true
  or-true true = refl
  or-true false = refl

  there : (who : Who) (v : Event) (bytes : List ℕ) → (rough || not (finds_full who v bytes)) ≡ true
      → FitsAt (so_far_from [] h) who v bytes
  there (Node n) (Overflowed peer) bytes clear = some-fit (message_of bytes) rough calm-is clear
  there (Node n) _ bytes clear = tt
  there Net v bytes clear = tt

  back : (who : Who) (v : Event) (bytes : List ℕ) → FitsAt (so_far_from [] h) who v bytes
      → (rough || not (finds_full who v bytes)) ≡ true
  back (Node n) (Overflowed peer) bytes fits = fit-some (message_of bytes) rough calm-is fits
  back (Node n) _ bytes fits = or-true rough
  back Net v bytes fits = or-true rough

  pub fit-next : ((rough || not (finds_full f.who f.event f.first)) ≡ true) ↔ MessagesFit (h ++ f ∷ [])
  fit-next = (
    λ clear. each-next (λ past f. FitsAt past f.who f.event f.first) [] h f m (there f.who f.event f.first clear),
    λ fits. back f.who f.event f.first (each-last (λ past f. FitsAt past f.who f.event f.first) [] h f fits),
  )

pub or-first : (a b : Bool) → a ≡ true → (a || b) ≡ a
or-first true b e = refl
or-first false b e = cc

pub or-second : (a b : Bool) → a ≡ false → (a || b) ≡ b
or-second true b e = cc
or-second false b e = refl
