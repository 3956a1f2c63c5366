-- In which order calls are asked.
use Rattle.std.proofs.Common.{◌≡◌, ℕ, zero, suc, ◌+◌, Bool, true, false, cond, List, [], ◌∷◌, ◌++◌}
use Rattle.std.proofs.Common.{add-zero, ap, ap₂, append-nil, append_assoc, arith, map, refl, sym, ◌∙◌}
use Rattle.std.specs.List.{filter, range_with_len}
use Rattle.std.proofs.lemmas.List.Elements.{filter-append}
use Rattle.std.proofs.lemmas.List.FromFn.{map-range_with_len_more}
use Rattle.node_steps.specs.Notes.{asked_in, is_asked}
use Rattle.node_steps.proofs.NoteCounts.{many-append, many-cons}
use Rattle.load_plan.specs.Calls.{Calls}
use Rattle.load_run.specs.Loading.{AsksInOrder, ask_noted}
use Rattle.node_laws.proofs.Allowed.{Leads}
use Rattle.node_laws.proofs.RunLaws.{run_leads}
use Rattle.rpc_turns.specs.Plain.{End, Stands}
use Rattle.rpc_base.specs.declared.event.Event.{Event}
use Rattle.rpc_base.specs.declared.event.Event.TheVariants.{Asked}
use Rattle.rpc_base.specs.declared.fact.Fact.{Fact}
use Rattle.rpc_base.specs.declared.limits.Limits.{Limits}
use Rattle.rpc_laws.specs.declared.tables.Lists.{Lists}
use Rattle.rpc_laws.specs.NodeLists.{after, asked_after, new_lists}

-- a node counts the calls that were asked
asked-by : (e : Event) (n : ℕ) → asked_after e n ≡ n + cond (is_asked e) 1 0
asked-by (Asked call session req_type room) n = refl
asked-by _ n = sym (add-zero n)

asked-leads : (s : Lists) (x : List Fact) (t : Lists) → Leads s x t → t.asked ≡ s.asked + asked_in x
asked-leads s [] t e = ap (λ (l : Lists). l.asked) e ∙ sym (add-zero s.asked)
asked-leads s (f ∷ x) t l =
    omega (
      arith,
      asked-leads (after l.0 s f) x t l.2,
      asked-by f.event s.asked,
      many-cons is_asked f x (is_asked f.event) refl,
    )

pub asked-stands : (limits : Limits) (past : List Fact) (e : End) → Stands limits past e
    → e.timed.lists.asked ≡ asked_in past
asked-stands limits past e s =
    let all : e.timed.lists.asked ≡ 0 + asked_in past =
    asked-leads (new_lists e.timed.lists.me e.timed.lists.life limits) past _ (run_leads s.runs.run) in
    omega (arith, all)

-- numbers, and those behind them
range-split : (f : ℕ → Fact) (a n m : ℕ)
    → map f (range_with_len a (n + m))
    ≡ map f (range_with_len a n) ++ map f (range_with_len (a + n) m)
range-split f a n zero =
    ap (λ k. map f (range_with_len a k)) (add-zero n) ∙ sym (append-nil (map f (range_with_len a n)))
range-split f a n (suc m) =
    let more : n + suc m ≡ (n + m) + 1 = omega arith in
    let one : suc m ≡ m + 1 = omega arith in
    let last : a + (n + m) ≡ (a + n) + m = omega arith in
    ap (λ k. map f (range_with_len a k)) more
    ∙ map-range_with_len_more f a (n + m) ((a + n) + m) last
    ∙ ap (λ (y : List Fact). y ++ f ((a + n) + m) ∷ []) (range-split f a n m)
    ∙ append_assoc (map f (range_with_len a n)) (map f (range_with_len (a + n) m))
    (f ((a + n) + m) ∷ [])
    ∙ ap (λ (y : List Fact). map f (range_with_len a n) ++ y)
    (sym (ap (λ k. map f (range_with_len (a + n) k)) one
    ∙ map-range_with_len_more f (a + n) m ((a + n) + m) refl))

module _ (c : Calls) (session : ℕ) where
  -- where none is asked, none is out of order
  none-asked : (x : List Fact) → asked_in x ≡ 0 → filter (λ f. is_asked f.event) x ≡ []
  none-asked [] none = refl
  none-asked (f ∷ x) none = by (is_asked f.event) refl (none-asked x)
    where
      by : (b : Bool) → is_asked f.event ≡ b
          → (asked_in x ≡ 0 → filter (λ f. is_asked f.event) x ≡ [])
          → cond b (f ∷ filter (λ f. is_asked f.event) x) (filter (λ f. is_asked f.event) x) ≡ []
      by true e rest = absurd (omega (arith, none, many-cons is_asked f x true e))
      by false e rest = rest (omega (arith, none, many-cons is_asked f x false e))

  pub order-none : (from : ℕ) (x : List Fact) → asked_in x ≡ 0 → AsksInOrder c session from x
  order-none from x none =
      none-asked x none
      ∙ ap (λ n. map (ask_noted c session) (range_with_len from n)) (sym none)

  -- calls, and further ones
  pub order-then : (from to : ℕ) (x y : List Fact) → to ≡ from + asked_in x
      → AsksInOrder c session from x → AsksInOrder c session to y
      → AsksInOrder c session from (x ++ y)
  order-then from to x y count p q =
      filter-append (λ (f : Fact). is_asked f.event) x y
      ∙ ap₂ (λ (a b : List Fact). a ++ b) p
      (q ∙ ap (λ n. map (ask_noted c session) (range_with_len n (asked_in y))) count)
      ∙ sym (range-split (ask_noted c session) from (asked_in x) (asked_in y))
      ∙ ap (λ n. map (ask_noted c session) (range_with_len from n)) (sym (many-append is_asked x y))
