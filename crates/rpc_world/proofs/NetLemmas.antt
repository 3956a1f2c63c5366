-- What the network does, a clock that goes on, and a node that is made.
use Rattle.std.proofs.Common.{◌≡◌, ℕ, suc, ◌+◌, ◌<◌, ◌≤◌, Bool, false, cond, Some, List, [], ◌∷◌, ◌++◌}
use Rattle.std.proofs.Common.{map, length, length-append, refl, sym, ap, ap₂, subst, ◌∙◌, arith}
use Rattle.std.proofs.Common.{append_assoc, append-nil}
use Rattle.std.specs.List.{remove, slice_get}
use Rattle.std.proofs.lemmas.List.{drop_all, map-append, take_all}
use Rattle.std.proofs.lemmas.Bool.{le-ltb, lt-ltb, ne_eqb}
use Rattle.end_laws.proofs.ListLemmas.{add-placed}
use Rattle.rpc_base.proofs.FirstLemmas.{all-each}
use Rattle.rpc_base.specs.declared.event.Event.{Event}
use Rattle.rpc_base.specs.declared.event.Event.TheVariants.{Carried, Made, Missed, Ticked}
use Rattle.rpc_base.specs.declared.fact.Fact.{Fact}
use Rattle.rpc_laws.specs.declared.tables.InFlight.{InFlight}
use Rattle.rpc_laws.specs.declared.tables.Timed.{Timed}
use Rattle.rpc_laws.specs.declared.tables.WorkedJob.{WorkedJob}
use Rattle.rpc_laws.specs.Deliveries.{Delivers}
use Rattle.rpc_laws.specs.Facts.{of_net, plain}
use Rattle.rpc_laws.specs.InFlight.{flight_after_net}
use Rattle.rpc_laws.specs.NodeLists.{new_node}
use Rattle.rpc_laws.specs.Lives.{first_life}
use Rattle.rpc_laws.specs.UsualLimits.{with_ring}
use Rattle.rpc_laws.specs.Working.{worked_of}
use Rattle.sim_script.specs.FollowsScript.{Arrives, AtNode, Carries, Makes, OfNet, Ticks, is_wanting}
use Rattle.rpc_world.specs.Answered.{End, Plainly, Play, stage_of, told_end, totals_of}
use Rattle.rpc_world.specs.Before.{AllPlay, IsNumbered, IsPlaying}
use Rattle.rpc_world.specs.Peers.{CopiesAmong, PeersAmong}
use Rattle.rpc_world.specs.Performed.{Performed}
use Rattle.rpc_world.proofs.PeerLemmas.{copies-more, found-all, left-copies, net-copies, peers-more}
use Rattle.rpc_world.proofs.PlainLemmas.{plainly-append, plainly-made, plainly-net, plainly-quiet}
use Rattle.rpc_world.proofs.StaysLemmas.{ends-long}
use Rattle.rpc_world.proofs.StepLemmas.{AreTheirs, performed-as, place-in}
use Rattle.work_laws.proofs.StayLaws.{new-knows}

-- the copies in flight and the clock don't matter to the workers
pub flight-plays : (s : Play) (flight : List InFlight) (clock : ℕ)
    → CopiesAmong (length s.ends) flight → AllPlay s
    → AllPlay (record { ends = s.ends; flight = flight; worked = s.worked; clock = clock })
flight-plays s flight clock among a =
    record { each = a.each; theirs = a.theirs; peers = a.peers; copies = among }

pub flight-numbered : (z s : Play) (i : ℕ) (flight : List InFlight) → z ≡ s
    → flight ≡ remove z.flight i → IsNumbered s → IsNumbered (record z { flight = flight })
flight-numbered z s i flight view is m =
    let n : IsNumbered z = subst (λ (y : Play). IsNumbered y) (sym view) m in
    let among = left-copies (length z.ends) i z.flight n.playing.copies in
    record {
      playing = flight-plays z flight z.clock (rw is among) n.playing;
      few = n.few;
    }

-- a copy that was in flight goes from a node to a node
pub copy-among : (z s : Play) (i : ℕ) (copy : InFlight) → z ≡ s
    → slice_get z.flight i ≡ Some copy → IsNumbered s
    → (copy.from < length z.ends) × (copy.to < length z.ends)
copy-among z s i copy view at m =
    let n : IsNumbered z = subst (λ (y : Play). IsNumbered y) (sym view) m in
    found-all (λ (c : InFlight). (c.from < length z.ends) × (c.to < length z.ends)) z.flight i copy
    n.playing.copies at

-- an event of the network
pub of-net : (e : Event) (z s : Play) (flight : List InFlight) (f g : List Fact) → z ≡ s
    → is_wanting e ≡ false → flight ≡ flight_after_net e z.flight → g ≡ f ++ of_net e ∷ []
    → Performed (OfNet e) s (record z { flight = flight }) f g
of-net e z s flight f g view whole is grew =
    subst (λ (y : Play). Performed (OfNet e) y (record z { flight = flight }) f g) view
    (record {
      group = of_net e ∷ [];
      grew = grew;
      does = record { facts = refl; left = rw is refl };
      plain = plainly-net e (totals_of z) whole;
      keeps = λ a. flight-plays z flight z.clock
          (rw is (net-copies (length z.ends) e z.flight a.copies)) a;
    })

pub ticks : (by : ℕ) (z s : Play) (clock : ℕ) (f g : List Fact) → z ≡ s → clock ≡ z.clock + by
    → g ≡ f ++ of_net (Ticked by) ∷ [] → Performed (Ticks by) s (record z { clock = clock }) f g
ticks by z s clock f g view is grew =
    subst (λ (y : Play). Performed (Ticks by) y (record z { clock = clock }) f g) view
    (record {
      group = of_net (Ticked by) ∷ [];
      grew = grew;
      does = record { facts = refl; left = rw is refl };
      plain = plainly-net (Ticked by) (totals_of z) refl;
      keeps = λ a. flight-plays z z.flight clock a.copies a;
    })

-- a copy is taken out of flight, and delivered
pub carried : (i : ℕ) (copy : InFlight) (z s t : Play) (f g h : List Fact) → z ≡ s
    → slice_get z.flight i ≡ Some copy → g ≡ f ++ of_net (Carried i) ∷ []
    → Performed (AtNode (Delivers copy.from copy.bytes) copy.to) (record z { flight = remove z.flight i }) t g h
    → Performed (Carries i) s t f h
carried i copy z s t f g h view at grew p =
    subst (λ (y : Play). Performed (Carries i) y t f h) view
    (record {
      group = of_net (Carried i) ∷ p.group;
      grew = p.grew ∙ (ap (λ (x : List Fact). x ++ p.group) grew
          ∙ append_assoc f (of_net (Carried i) ∷ []) p.group);
      does = record { copy = copy; is_copy = at; delivered = p.group; facts = refl; arrives = p.does };
      plain = plainly-append (of_net (Carried i) ∷ []) p.group (totals_of z) (totals_of z) (totals_of t)
          (plainly-net (Carried i) (totals_of z) refl) p.plain;
      keeps = λ a. p.keeps (flight-plays z (remove z.flight i) z.clock
          (left-copies (length z.ends) i z.flight a.copies) a);
    })

-- no worked job is of a node to come
less-other : (k n : ℕ) → k < n → k ≡ n → ⊥
less-other k n less same = absurd (omega (arith, less, same))

none-of : (n : ℕ) (worked : List WorkedJob) → AreTheirs n worked → worked_of n worked ≡ []
none-of n [] all = refl
none-of n (w ∷ worked) all =
    let other = ne_eqb w.node n (less-other w.node n all.0) in
    ap (λ (b : Bool). cond b (w ∷ worked_of n worked) (worked_of n worked)) other ∙ none-of n worked all.1

-- a node is made
module _ (ring : ℕ) (z : Play) (e : End)
    (made : e ≡ record {
      timed = new_node (length z.ends) first_life (with_ring ring);
      handed = [];
      service = 0;
      workers = record { limit = 64; given = 0; waiting = []; worked = [] };
    }) where
  new-plays : AllPlay z → IsPlaying z.worked (length z.ends) e
  new-plays a = subst (λ (y : End). IsPlaying z.worked (length z.ends) y) (sym made) (record {
    me = refl;
    staffed = record {
      agree = record { same = λ count. refl; ready = tt };
      limit_is = refl;
      given_is = refl;
    };
    knows = new-knows (length z.ends) first_life (with_ring ring) z.worked
        (record { limit = 64; given = 0; waiting = []; worked = [] })
        (none-of (length z.ends) z.worked a.theirs) refl refl;
  })

  more-ends : length z.ends ≤ length (z.ends ++ e ∷ [])
  more-ends = let more = length-append z.ends (e ∷ []) in omega (arith, more)

  all-plays : AllPlay z → AllPlay (record z { ends = z.ends ++ e ∷ [] })
  all-plays a = record {
    each = add-placed (λ n y. IsPlaying z.worked n y) z.ends e (new-plays a) a.each;
    theirs =
        let more = length-append z.ends (e ∷ []) in
        all-each (λ (w : WorkedJob). w.node < length z.ends)
        (λ (w : WorkedJob). w.node < length (z.ends ++ e ∷ [])) z.worked
        (λ w less. omega (arith, less, more)) a.theirs;
    peers = add-placed (λ n y. PeersAmong (length (z.ends ++ e ∷ [])) y.timed.lists) z.ends e
        (subst (λ (y : End). PeersAmong (length (z.ends ++ e ∷ [])) y.timed.lists) (sym made) (tt, tt, tt))
        (λ n y at. peers-more (length z.ends) (length (z.ends ++ e ∷ [])) y.timed.lists more-ends
        (a.peers n y at));
    copies = copies-more (length z.ends) (length (z.ends ++ e ∷ [])) z.flight more-ends a.copies;
  }

  pub makes-node : (s : Play) (f g : List Fact) → z ≡ s
      → g ≡ f ++ plain (length z.ends) (Made ring) ∷ []
      → Performed (Makes ring) s (record z { ends = z.ends ++ e ∷ [] }) f g
  makes-node s f g view grew =
      subst (λ (y : Play). Performed (Makes ring) y (record z { ends = z.ends ++ e ∷ [] }) f g) view
      (record {
        group = plain (length z.ends) (Made ring) ∷ [];
        grew = grew;
        does = record {
          facts = ap (λ n. plain n (Made ring) ∷ []) (sym (ends-long z));
          left = ap (λ (ns : List Timed). record (stage_of z) { nodes = ns })
              (map-append told_end z.ends (e ∷ [])
              ∙ ap (λ (t : Timed). map told_end z.ends ++ t ∷ [])
              (ap told_end made ∙ ap (λ n. new_node n first_life (with_ring ring)) (sym (ends-long z))));
        };
        plain = subst (λ (b : List ℕ). Plainly (plain (length z.ends) (Made ring) ∷ []) (totals_of z) b)
            (sym (map-append (λ (y : End). y.service) z.ends (e ∷ [])
            ∙ ap (λ (y : End). totals_of z ++ y.service ∷ []) made))
            (plainly-made (plain (length z.ends) (Made ring) ∷ []) (totals_of z)
            (plainly-quiet (length z.ends) (plain (length z.ends) (Made ring) ∷ []) (totals_of z) (refl, tt)
            (λ served. ((tt, tt), refl)) refl));
        keeps = all-plays;
      })

-- a copy that is there arrives, and another number is missed
pub arrives-carried : (i : ℕ) (copy : InFlight) (z s t : Play) (f g h : List Fact) → z ≡ s
    → slice_get z.flight i ≡ Some copy → g ≡ f ++ of_net (Carried i) ∷ []
    → Performed (AtNode (Delivers copy.from copy.bytes) copy.to) (record z { flight = remove z.flight i }) t g h
    → Performed (Arrives i) s t f h
arrives-carried i copy z s t f g h view at grew p =
    let here : i < length z.flight = place-in z.flight i copy at in
    let there : i < length s.flight = subst (λ (y : Play). i < length y.flight) view here in
    performed-as (Carries i) (Arrives i) s t f h
    (λ x k. rw (lt-ltb i (length s.flight) there) k) (carried i copy z s t f g h view at grew p)

remove-past : {A : Type 0} (xs : List A) (i : ℕ) → length xs ≤ i → remove xs i ≡ xs
remove-past xs i h =
    ap₂ (λ ys zs. ys ++ zs) (take_all i xs h) (drop_all (suc i) xs (omega (arith, h))) ∙ append-nil xs

pub arrives-missed : (i : ℕ) (z s t : Play) (flight : List InFlight) (f g : List Fact) → z ≡ s
    → length z.flight ≤ i → flight ≡ remove z.flight i
    → Performed (OfNet (Missed i)) (record z { flight = flight }) t f g → Performed (Arrives i) s t f g
arrives-missed i z s t flight f g view past is p =
    let back : record z { flight = flight } ≡ s =
    ap (λ (c : List InFlight). record z { flight = c }) (is ∙ remove-past z.flight i past) ∙ view in
    let here : length s.flight ≤ i = subst (λ (y : Play). length y.flight ≤ i) view past in
    performed-as (OfNet (Missed i)) (Arrives i) s t f g
    (λ x k. rw (le-ltb i (length s.flight) here) k)
    (subst (λ (y : Play). Performed (OfNet (Missed i)) y t f g) back p)
