-- What the endpoints of a system do is a wire run.
use Rattle.std.proofs.Common.{◌≡◌, ◌<◌, ◌≤◌, ◌+◌, ℕ, zero, suc, Bool, true, false, cond, List, []}
use Rattle.std.proofs.Common.{◌∷◌, ◌++◌}
use Rattle.std.proofs.Common.{length, Some, slice_get, refl, sym, ap, ◌∙◌, subst, eqb}
use Rattle.std.proofs.Common.{append_assoc, append-nil, length-append, arith, nat_lt, ltb-true}
use Rattle.std.proofs.Common.{ltb-false}
use Rattle.std.specs.List.{AllByRecursion, slice_set}
use Rattle.std.proofs.lemmas.Bool.{eqb-true, eqb-false}
use Rattle.std.proofs.lemmas.Option.{slice_get_within}
use Rattle.rpc_base.specs.declared.event.Event.TheVariants.{Made}
use Rattle.rpc_base.specs.declared.fact.Fact.{Fact}
use Rattle.rpc_base.proofs.PlaceLemmas.{get-map}
use Rattle.rpc_outside.specs.declared.service.Mode.{Mode}
use Rattle.rpc_outside.specs.Linking.{Carried}
use Rattle.rpc_outside.specs.Served.{Served}
use Rattle.rpc_laws.specs.declared.tables.InFlight.{InFlight}
use Rattle.rpc_laws.specs.declared.tables.Timed.{Timed}
use Rattle.rpc_laws.specs.Facts.{plain}
use Rattle.rpc_laws.specs.Lives.{first_life}
use Rattle.rpc_laws.specs.NodeLists.{new_node}
use Rattle.rpc_laws.specs.Service.{Answers, Serving, served_after_all}
use Rattle.rpc_laws.proofs.AnswerLemmas.{answers-append, served-append}
use Rattle.end_laws.proofs.WireOwn.{wire-own}
use Rattle.end_laws.proofs.ListLemmas.{Placed, add-placed, length-slice_set, set-placed}
use Rattle.end_laws.specs.JointRun.{Joint, at_node}
use Rattle.end_laws.specs.WireRun.{WireStep, WireSteps, makes, more, none}
use Rattle.node_steps.specs.Notes.{sent_of}
use Rattle.turn_laws.specs.Deeds.{Deed, DoesAll, noted_in}
use Rattle.turn_laws.specs.Systems.{EachWasSent, RunsOverWires, System, SystemDid, WasSent}
use Rattle.turn_laws.specs.Systems.{WireRunsKeepCalls}
use Rattle.turn_laws.specs.Systems.{SystemsKeepCalls, SystemsRunOverWires, deeds_of, history_of}
use Rattle.turn_laws.specs.Systems.{made_in, parties_of}
use Rattle.turn_laws.specs.Wires.{AreOnWire, IsOnWire, on_wire}
use Rattle.turn_laws.proofs.DeedLemmas.{OwnPart, deed-keeps}
use Rattle.turn_laws.proofs.WireLemmas.{deed-steps}
use Rattle.world_laws.proofs.FactLemmas.{AllAt, eqb-same, facts-append, facts-other, facts-own}
use Rattle.turn_laws.proofs.OnceLemmas.{wire-all-once}
use Rattle.world_laws.proofs.JointCalls.{wire-calls-once, wire-in-order}
use Rattle.world_laws.proofs.WorkLemmas.{times_worked, worked-append, worked-cons}

module _ {A : Type 0} where
  pub get-front : (xs ys : List A) (i : ℕ) (x : A) → slice_get xs i ≡ Some x
      → slice_get (xs ++ ys) i ≡ Some x
  get-front [] ys i x h = cc
  get-front (z ∷ xs) ys zero x h = h
  get-front (z ∷ xs) ys (suc i) x h = get-front xs ys i x h

  get-back : (xs ys : List A) (i : ℕ) → slice_get (xs ++ ys) (length xs + i) ≡ slice_get ys i
  get-back [] ys i = let e : 0 + i ≡ i = omega arith in rw e refl
  get-back (x ∷ xs) ys i =
      let e : suc (length xs) + i ≡ suc (length xs + i) = omega arith in
      rw e (get-back xs ys i)

  pub get-below : (xs : List A) (i : ℕ) → i < length xs → (x : A) × (slice_get xs i ≡ Some x)
  get-below [] i h = absurd (omega arith)
  get-below (x ∷ xs) zero h = (x, refl)
  get-below (x ∷ xs) (suc i) h = get-below xs i (omega arith)

-- all that was sent in some deeds, in order
abbrev wire_of : List Deed → List InFlight
wire_of [] = []
wire_of (d ∷ ds) = on_wire d.node (sent_of d.noted) ++ wire_of ds

wire-more : (ds : List Deed) (d : Deed)
    → wire_of ds ++ on_wire d.node (sent_of d.noted) ≡ wire_of (ds ++ d ∷ [])
wire-more [] d = sym (append-nil (on_wire d.node (sent_of d.noted)))
wire-more (e ∷ ds) d =
    append_assoc (on_wire e.node (sent_of e.noted)) (wire_of ds) (on_wire d.node (sent_of d.noted))
    ∙ ap (λ (w : List InFlight). on_wire e.node (sent_of e.noted) ++ w) (wire-more ds d)

-- what a deed sent is there
on-wire-at : (ds : List Deed) (i : ℕ) (d : Deed) → slice_get ds i ≡ Some d → (k : ℕ) (c : Carried)
    → slice_get (sent_of d.noted) k ≡ Some c
    → (j : ℕ) × (slice_get (wire_of ds) j ≡ Some (record { from = d.node; to = c.0; bytes = c.1 }))
on-wire-at [] i d h k c s = cc
on-wire-at (e ∷ ds) zero d h k c s =
    let same : e ≡ d = cc in
    let mapped = get-map (λ (b : Carried). record { from = d.node; to = b.0; bytes = b.1 })
    (sent_of d.noted) k c s in
    (k, get-front (on_wire e.node (sent_of e.noted)) (wire_of ds) k _ (rw same mapped))
on-wire-at (e ∷ ds) (suc i) d h k c s =
    let rest = on-wire-at ds i d h k c s in (
      length (on_wire e.node (sent_of e.noted)) + rest.0,
      get-back (on_wire e.node (sent_of e.noted)) (wire_of ds) rest.0 ∙ rest.1,
    )

was-on-wire : (earlier : List Deed) (n : ℕ) (c : Carried) → WasSent earlier n c
    → IsOnWire (wire_of earlier) n c
was-on-wire earlier n c s =
    let at = on-wire-at earlier s.place s.deed s.is_earlier s.number (n, c.1) s.to_node in
    record {
      number = at.0;
      is_copy = at.1 ∙ ap (λ (p : ℕ). Some (record { from = p; to = n; bytes = c.1 })) s.by_peer;
    }

were-on-wire : (earlier : List Deed) (n : ℕ) (came : List Carried)
    → AllByRecursion (WasSent earlier n) came → AreOnWire (wire_of earlier) n came
were-on-wire earlier n [] all = tt
were-on-wire earlier n (c ∷ cs) all =
    (was-on-wire earlier n c all.0, were-on-wire earlier n cs all.1)

-- the deeds of a node, behind one of its own and behind another's
own-deed : (d : Deed) (ds : List Deed) → deeds_of d.node (d ∷ ds) ≡ d ∷ deeds_of d.node ds
own-deed d ds = rw (eqb-same d.node) refl

not-same : (n m : ℕ) (b : Bool) → eqb n m ≡ b → (m ≡ n → ⊥) → eqb n m ≡ false
not-same n m true e other = absurd (other (sym (eqb-true n m e)))
not-same n m false e other = e

other-deed : (n : ℕ) (d : Deed) (ds : List Deed) → (n ≡ d.node → ⊥)
    → deeds_of n (d ∷ ds) ≡ deeds_of n ds
other-deed n d ds other = rw (not-same d.node n (eqb d.node n) refl other) refl

-- what was noted in a node's deeds are its facts
abbrev AllOwn : List Deed → Type 0
AllOwn ds = AllByRecursion (λ d. AllAt d.node d.noted) ds

noted-by : (n : ℕ) (d : Deed) (ds : List Deed) (b : Bool) → eqb d.node n ≡ b → AllAt d.node d.noted
    → at_node n (noted_in ds) ≡ noted_in (deeds_of n ds)
    → at_node n d.noted ++ at_node n (noted_in ds)
    ≡ noted_in (cond b (d ∷ deeds_of n ds) (deeds_of n ds))
noted-by n d ds true e own ih =
    let at : AllAt n d.noted = subst (λ (m : ℕ). AllAt m d.noted) (eqb-true d.node n e) own in
    rw (facts-own n d.noted at, ih) refl
noted-by n d ds false e own ih =
    rw (facts-other d.node n d.noted (eqb-false d.node n e) own, ih) refl

noted-at : (n : ℕ) (ds : List Deed) → AllOwn ds → at_node n (noted_in ds) ≡ noted_in (deeds_of n ds)
noted-at n [] all = refl
noted-at n (d ∷ ds) all =
    facts-append n d.noted (noted_in ds) ∙ noted-by n d ds (eqb d.node n) refl all.0
    (noted-at n ds all.1)

module _ (system : System) where
  abbrev mode_of : ℕ → (ℕ → Mode)
  mode_of n = (system.services n).mode

  -- the endpoints are made, one after another
  abbrev made_nodes : ℕ → List Timed
  made_nodes zero = []
  made_nodes (suc n) = made_nodes n ++ new_node n first_life (system.limits n) ∷ []

  many-made : (n : ℕ) → length (made_nodes n) ≡ n
  many-made zero = refl
  many-made (suc n) = omega (
    arith,
    length-append (made_nodes n) (new_node n first_life (system.limits n) ∷ []),
    many-made n,
  )

  made-placed : (n : ℕ) → Placed (λ i s. s ≡ new_node i first_life (system.limits i)) (made_nodes n)
  made-placed zero = λ i s is. absurd (cc)
  made-placed (suc n) = add-placed (λ i s. s ≡ new_node i first_life (system.limits i))
      (made_nodes n)
      (new_node n first_life (system.limits n)) (rw (many-made n) refl) (made-placed n)

  made-steps : (n : ℕ) → WireSteps (parties_of system) (made_in system n)
      (record { nodes = made_nodes n; flight = [] })
  made-steps zero = none
  made-steps (suc n) =
      let before : Joint = record { nodes = made_nodes n; flight = [] } in
      let now : Joint = record { nodes = made_nodes (suc n); flight = [] } in
      let fact : List Fact = plain n (Made (system.limits n).ring) ∷ [] in
      let step : WireStep (parties_of system) before fact now = makes (record {
        ring = (system.limits n).ring;
        facts = rw (many-made n) refl;
        left = rw (many-made n) refl;
      }) in
      more (made-steps n) fact now step

  -- what is left of a node's deeds leads to what it is at the end
  record HasLeft (left : ℕ → Timed) (ds : List Deed) (n : ℕ) (s : Timed) : Type 0 where
    me : s.lists.me ≡ n
    steps : DoesAll (mode_of n) (deeds_of n ds) s (left n)

  record Ends (left : ℕ → Timed) (g : List Fact) : Type 0 where
    end : Joint
    steps : WireSteps (parties_of system) g end
    many : length end.nodes ≡ system.size
    nodes : Placed (λ n s. s ≡ left n) end.nodes

  -- the deeds, one after another
  deeds-run : (left : ℕ → Timed) (ds earlier : List Deed) (g : List Fact) (nodes : List Timed)
      → WireSteps (parties_of system) g (record { nodes = nodes; flight = wire_of earlier })
      → length nodes ≡ system.size → AllByRecursion (λ d. d.node < system.size) ds
      → Placed (HasLeft left ds) nodes → EachWasSent earlier ds
      → Ends left (g ++ noted_in ds) × AllOwn ds
  deeds-run left [] earlier g nodes w many few has sent = (
    rw (append-nil g) (record {
      end = record { nodes = nodes; flight = wire_of earlier };
      steps = w;
      many = many;
      nodes = λ n s is. sym ((has n s is).steps);
    }),
    tt,
  )
  deeds-run left (d ∷ ds) earlier g nodes w many few has sent =
      let n = d.node in
      let at = get-below nodes n (rw many few.0) in
      let mine = has n at.0 at.1 in
      let steps : DoesAll (mode_of n) (d ∷ deeds_of n ds) at.0 (left n) =
      subst (λ (y : List Deed). DoesAll (mode_of n) y at.0 (left n)) (own-deed d ds) mine.steps in
      let k = deed-keeps (mode_of n) d at.0 steps.0 steps.1 in
      let next = deed-steps (parties_of system) n d g nodes
      (wire_of earlier) at.0 steps.0 w at.1 mine.me
      (were-on-wire earlier n d.came sent.0) steps.1 in
      let then_nodes = slice_set nodes n steps.0 in
      let more_left = set-placed (HasLeft left ds) nodes n at.0 steps.0 at.1
      (record { me = k.me ∙ mine.me; steps = steps.2 })
      (λ j z other is. let h = has j z is in record {
        me = h.me;
        steps = subst (λ (y : List Deed). DoesAll (mode_of j) y z (left j))
            (other-deed j d ds other) h.steps;
      }) in
      let rest = deeds-run left ds (earlier ++ d ∷ []) (g ++ d.noted) then_nodes
      (subst (λ (f : List InFlight). WireSteps (parties_of system) (g ++ d.noted)
      (record { nodes = then_nodes; flight = f }))
      (wire-more earlier d) next)
      (length-slice_set nodes n steps.0 ∙ many) few.1 more_left sent.1 in (
        subst (Ends left) (append_assoc g d.noted (noted_in ds)) rest.0,
        (subst (λ (i : ℕ). AllAt i d.noted) mine.me k.at, rest.1),
      )

  -- that endpoints are made says nothing of answers and of jobs
  record Quiet (v : Serving) (x : List Fact) : Type 0 where
    answers : Answers v [] x
    served : served_after_all v.mode [] x ≡ []
    unworked : (t r : ℕ) → times_worked t r x ≡ 0

  quiet-more : (v : Serving) (n k ring : ℕ) (x : List Fact) (b : Bool) → eqb k n ≡ b → Quiet v x
      → Quiet v (x ++ at_node n (plain k (Made ring) ∷ []))
  quiet-more v n k ring x true e q =
      let made : List Fact = plain k (Made ring) ∷ [] in
      rw e (record {
        answers = answers-append v [] x made q.answers (tt, tt);
        served = served-append v.mode [] x made ∙ q.served;
        unworked = λ t r. omega (
          arith,
          worked-append t r x made,
          worked-cons t r (plain k (Made ring)) [],
          q.unworked t r,
        );
      })
  quiet-more v n k ring x false e q = rw (e, append-nil x) q

  quiet-made : (v : Serving) (n k : ℕ) → Quiet v (at_node n (made_in system k))
  quiet-made v n zero = record { answers = tt; served = refl; unworked = λ t r. refl }
  quiet-made v n (suc k) =
      let made : List Fact = plain k (Made (system.limits k).ring) ∷ [] in
      subst (Quiet v) (sym (facts-append n (made_in system k) made))
      (quiet-more v n k (system.limits k).ring (at_node n (made_in system k)) (eqb k n) refl
      (quiet-made v n k))

  no-deeds : (n : ℕ) (ds : List Deed) → system.size ≤ n
      → AllByRecursion (λ d. d.node < system.size) ds → deeds_of n ds ≡ []
  no-deeds n [] past few = refl
  no-deeds n (d ∷ ds) past few =
      let below = few.0 in
      other-deed n d ds (λ e. absurd (omega (arith, e, past, below))) ∙ no-deeds n ds past few.1

  own-part : (ds : List Deed) (left : ℕ → Timed) → SystemDid system ds left → (n : ℕ) (b : Bool)
      → nat_lt n system.size ≡ b → OwnPart (system.services n) (noted_in (deeds_of n ds))
  own-part ds left h n true e =
      let own = h.own n (ltb-true n system.size e) in
      record { answers = own.answers; worked_once = own.worked_once }
  own-part ds left h n false e =
      rw (no-deeds n ds (ltb-false n system.size e) h.numbered) (record {
        answers = tt;
        worked_once = λ t r. omega arith;
      })

  part-run : (v : Serving) (x y : List Fact) → Quiet v x → OwnPart v y → OwnPart v (x ++ y)
  part-run v x y q o = record {
    answers = answers-append v [] x y q.answers
        (subst (λ (s : Served). Answers v s y) (sym q.served) o.answers);
    worked_once = λ t r. omega (arith, worked-append t r x y, q.unworked t r, o.worked_once t r);
  }

  history-part : (ds : List Deed) (left : ℕ → Timed) → SystemDid system ds left → AllOwn ds
      → (n : ℕ) → OwnPart (system.services n) (at_node n (history_of system ds))
  history-part ds left h all n =
      subst (OwnPart (system.services n))
      (ap (λ (y : List Fact). at_node n (made_in system system.size) ++ y) (sym (noted-at n ds all))
      ∙ sym (facts-append n (made_in system system.size) (noted_in ds)))
      (part-run (system.services n) (at_node n (made_in system system.size))
      (noted_in (deeds_of n ds))
      (quiet-made (system.services n) n system.size)
      (own-part ds left h n (nat_lt n system.size) refl))

  -- at first all of them is left
  first-left : (ds : List Deed) (left : ℕ → Timed) → SystemDid system ds left
      → Placed (HasLeft left ds) (made_nodes system.size)
  first-left ds left h n s is =
      let new = made-placed system.size n s is in
      let own = h.own n (subst (λ (k : ℕ). n < k) (many-made system.size)
      (slice_get_within (made_nodes system.size) n s is)) in
      rw new (record { me = refl; steps = own.steps })

  pub runs-over-wires : (ds : List Deed) (left : ℕ → Timed) → SystemDid system ds left
      → RunsOverWires system ds left
  runs-over-wires ds left h =
      let done = deeds-run left ds [] (made_in system system.size) (made_nodes system.size)
      (made-steps system.size) (many-made system.size) h.numbered (first-left ds left h) h.sent in
      let ends = done.0 in
      record {
        end = ends.end;
        run = record {
          steps = ends.steps;
          worked_once = λ n. (history-part ds left h done.1 n).worked_once;
          answers = λ n. (history-part ds left h done.1 n).answers;
        };
        nodes = λ n few.
            let at = get-below ends.end.nodes n (rw ends.many few) in
            at.1 ∙ ap (λ (s : Timed). Some s) (ends.nodes n at.0 at.1);
      }

pub systems-run : SystemsRunOverWires
systems-run system ds left h = runs-over-wires system ds left h

pub wires-keep : WireRunsKeepCalls
wires-keep parties g t run = record {
  once = wire-all-once parties g t run;
  one = wire-calls-once parties g t run;
  order = wire-in-order parties g t run;
  own = wire-own parties g t run;
}

pub systems-keep : SystemsKeepCalls
systems-keep system ds left h =
    let runs = runs-over-wires system ds left h in
    wires-keep (parties_of system) (history_of system ds) runs.end runs.run
