-- The call of a session that was taken last, where it waits.
use Rattle.std.proofs.Common.{◌≡◌, ℕ, suc, ◌-◌, Option, Some, None, List, [], ◌∷◌, ◌++◌}
use Rattle.std.proofs.Common.{map, length, refl, sym, ap, ◌∙◌, arith}
use Rattle.std.specs.Prelude.{slice_get, option_and_then, option_map}
use Rattle.std.proofs.lemmas.List.{length-map}
use Rattle.std.proofs.lemmas.Option.{slice_get-map}
use Rattle.message_buffer.specs.Buffer.{bytes_of}
use Rattle.buffer_pool.specs.Pool.{Pool}
use Rattle.client_core.specs.declared.call.ActiveCall.{ActiveCall}
use Rattle.client_core.specs.Shown.{shown_active, shown_waiting}
use Rattle.rpc_laws.specs.Calls.{asking}
use Rattle.rpc_laws.specs.declared.tables.Asking.{Asking}
use Rattle.rpc_laws.specs.declared.tables.Call.{Call}
use Rattle.session_slots.specs.declared.waiting.Waiting.{Waiting}

abbrev last : {A : Type 0} → List A → Option A
last xs = slice_get xs (length xs - 1)

last-later : {A : Type 0} (x y : A) (ys : List A) → last (x ∷ y ∷ ys) ≡ last (y ∷ ys)
last-later x y ys =
    let one : suc (suc (length ys)) - 1 ≡ suc (length ys) = omega arith in
    let two : suc (length ys) - 1 ≡ length ys = omega arith in
    rw (one, two) refl

last-put : {A : Type 0} (xs : List A) (y : A) → last (xs ++ y ∷ []) ≡ Some y
last-put [] y = refl
last-put (x ∷ []) y = refl
last-put (x ∷ z ∷ zs) y = last-later x z (zs ++ y ∷ []) ∙ last-put (z ∷ zs) y

last-map : {A B : Type 0} (f : A → B) (xs : List A) → last (map f xs) ≡ option_map f (last xs)
last-map f xs = rw (length-map xs f) (slice_get-map f xs (length xs - 1))

-- what comes last of calls that began and of those that wait behind them
waits-last : (pool : Pool) (active : List ActiveCall) (ws : List Waiting) (a : Asking)
    → last (map (shown_active pool) active ++ map shown_waiting ws)
    ≡ Some (record { what = a; progress = None })
    → option_map shown_waiting (last ws) ≡ Some (record { what = a; progress = None })
waits-last pool [] ws a e = sym (last-map shown_waiting ws) ∙ e
waits-last pool (c ∷ []) [] a e =
    let clash = ap (λ (o : Option Call). option_and_then (λ (d : Call). d.progress) o) e in cc
waits-last pool (c ∷ []) (w ∷ ws) a e =
    waits-last pool [] (w ∷ ws) a
    (sym (last-later (shown_active pool c) (shown_waiting w) (map shown_waiting ws)) ∙ e)
waits-last pool (c ∷ d ∷ ds) ws a e =
    waits-last pool (d ∷ ds) ws a
    (sym (last-later (shown_active pool c) (shown_active pool d)
    (map (shown_active pool) ds ++ map shown_waiting ws)) ∙ e)

bytes-of : (o : Option Waiting) (a : Asking) (bytes : List ℕ)
    → option_map shown_waiting o ≡ Some (record { what = a; progress = None })
    → o ≡ None → bytes ≡ a.ask
bytes-of o a bytes e none = let clash : option_map shown_waiting o ≡ None = ap (option_map shown_waiting) none in cc

module _ (pool : Pool) (active : List ActiveCall) (ws : List Waiting) (o : Option Waiting)
    (is : o ≡ slice_get ws (length ws - 1)) (calls : List Call) (what : Asking)
    (e : map (shown_active pool) active ++ map shown_waiting ws ≡ asking what calls) where
  waits : option_map shown_waiting o ≡ Some (record { what = what; progress = None })
  waits =
      ap (option_map shown_waiting) is
      ∙ waits-last pool active ws what
      (ap last e ∙ last-put calls (record { what = what; progress = None }))

  pub newest-bytes : (w : Waiting) → o ≡ Some w → bytes_of w.req ≡ what.ask
  newest-bytes w some =
      let same : Some (shown_waiting w) ≡ Some (record { what = what; progress = None }) =
      sym (ap (option_map shown_waiting) some) ∙ waits in
      asked-same (shown_waiting w) what same
    where
      asked-same : (c : Call) (a : Asking) → Some c ≡ Some (record { what = a; progress = None })
          → c.what.ask ≡ a.ask
      asked-same c a h = let one : c ≡ record { what = a; progress = None } = cc in ap (λ (d : Call). d.what.ask) one

  pub newest-none : (bytes : List ℕ) → o ≡ None → bytes ≡ what.ask
  newest-none bytes none = bytes-of o what bytes waits none
