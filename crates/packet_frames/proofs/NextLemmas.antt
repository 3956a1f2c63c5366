-- The next packet of a datagram, by the place up to which it was read.
use Rattle.std.proofs.Common.{◌≡◌, ◌≤◌, ◌<◌, ◌-◌, ℕ, zero, suc, List, [], ◌∷◌, length, take, drop}
use Rattle.std.proofs.Common.{Option, None, Some, MatchOption, IfSome, slice_get, refl, sym, ap}
use Rattle.std.proofs.Common.{◌∙◌, arith}
use Rattle.std.proofs.Common.{◌==◌, true, false, Bool, eqb-true, if◌then◌else◌}
use Rattle.std.proofs.Math.Seq.{drop-length, take-length}
use Rattle.packet_frames.specs.declared.reading.Span.{Span}
use Rattle.packet_frames.specs.declared.sizes.TheConstants.{FRAME_BYTE}
use Rattle.packet_frames.specs.Frames.{bare_packet, packets_from, packets_in, packets_of}

-- what a span says of the packets that were left, and those that are left then
abbrev pub IsNext : (ℕ → List (List ℕ)) → List (List ℕ) → List ℕ → Option Span → Type 0
IsNext after all d r =
    MatchOption r (all ≡ []) (λ s. all ≡ take (s.end - s.start) (drop s.start d) ∷ after s.end)

packets_from-later : (at : ℕ) (d : List ℕ) → 0 < at → packets_from at d ≡ packets_of (drop at d)
packets_from-later zero d h = absurd (omega arith)
packets_from-later (suc at) d h = refl

-- from a row to the datagram that it stands in
next-of : (all : List (List ℕ)) (at : ℕ) (d : List ℕ) (r : Option Span)
    → IsNext (λ end. packets_of (drop end d)) all d r
    → IfSome r (λ s. (at < s.end) × (s.start ≤ s.end)) → IsNext (λ end. packets_from end d) all d r
next-of all at d None h o = h
next-of all at d (Some s) h o =
    h ∙ ap (λ ps. take (s.end - s.start) (drop s.start d) ∷ ps)
    (sym (packets_from-later s.end d (omega (arith, o.0))))

pub next_later : (at : ℕ) (d : List ℕ) (r : Option Span) → 0 < at
    → IsNext (λ end. packets_of (drop end d)) (packets_of (drop at d)) d r
    → IfSome r (λ s. (at < s.end) × (s.start ≤ s.end))
    → IsNext (λ end. packets_from end d) (packets_from at d) d r
next_later at d r h n o = rw (packets_from-later at d h) (next-of (packets_of (drop at d)) at d r n o)

some-same : (x y : ℕ) → Some x ≡ Some y → x ≡ y
some-same x y e = cc

packets_in-framed : (d : List ℕ) → slice_get d 0 ≡ Some FRAME_BYTE
    → packets_in d ≡ packets_of (drop 1 d)
packets_in-framed [] h = absurd (cc)
packets_in-framed (x ∷ d) h = rw (some-same x FRAME_BYTE h) refl

pub next_framed : (at : ℕ) (d : List ℕ) (r : Option Span) → at ≤ 0
    → slice_get d 0 ≡ Some FRAME_BYTE
    → IsNext (λ end. packets_of (drop end d)) (packets_of (drop 1 d)) d r
    → IfSome r (λ s. (1 < s.end) × (s.start ≤ s.end))
    → IsNext (λ end. packets_from end d) (packets_from at d) d r
next_framed zero d r z f n o =
    rw (packets_in-framed d f) (next-of (packets_of (drop 1 d)) 1 d r n o)
next_framed (suc at) d r z f n o = absurd (omega arith)

packets_in-bare : (d : List ℕ) → (slice_get d 0 ≡ Some FRAME_BYTE → ⊥)
    → packets_in d ≡ bare_packet d
packets_in-bare [] h = refl
packets_in-bare (x ∷ d) h = by-test (x == FRAME_BYTE) refl where
  by-test : (b : Bool) → (x == FRAME_BYTE) ≡ b
      → (if b then packets_of d else bare_packet (x ∷ d)) ≡ bare_packet (x ∷ d)
  by-test true e = absurd (h (ap Some (eqb-true x FRAME_BYTE e)))
  by-test false e = refl

drop-all : (d : List ℕ) → 0 < length d → packets_from (length d) d ≡ []
drop-all d h = packets_from-later (length d) d h ∙ ap packets_of (drop-length d)

pub next_bare : (at : ℕ) (d : List ℕ) (r : Option Span) → at ≤ 0
    → (slice_get d 0 ≡ Some FRAME_BYTE → ⊥)
    → MatchOption r (bare_packet d ≡ []) (λ s. (s.start ≡ 0) × (s.end ≡ length d)
    × (bare_packet d ≡ d ∷ []) × (0 < s.end) × (s.end ≤ 2048))
    → IsNext (λ end. packets_from end d) (packets_from at d) d r
next_bare zero d None z f n = packets_in-bare d f ∙ n
next_bare zero d (Some s) z f n =
    let some : 0 < length d = omega (arith, n.1, n.3) in
    let all : length d - 0 ≡ length d = omega arith in
    rw (n.0) (rw (n.1) (rw all (packets_in-bare d f ∙ (n.2
    ∙ (ap (λ p. p ∷ []) (sym (take-length d))
    ∙ ap (λ ps. take (length d) d ∷ ps) (sym (drop-all d some)))))))
next_bare (suc at) d r z f n = absurd (omega arith)
