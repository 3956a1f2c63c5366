-- Where the last reply of a call is taken, and where a session breaks, the calls end in the same group.
use Rattle.std.proofs.Common.{◌≡◌, ◌<◌, ◌≤◌, ◌==◌, ◌&&◌, ◌⊎◌, inl, inr, ℕ, nat_lt, Bool, true}
use Rattle.std.proofs.Common.{false, cond, eqb}
use Rattle.std.proofs.Common.{List, [], ◌∷◌, map, Option, Some, None, slice_get, refl, sym, ap, ◌∙◌}
use Rattle.std.proofs.Common.{subst, eq-eqb, arith}
use Rattle.std.specs.Prelude.{option_map, count_by, is_none}
use Rattle.std.specs.List.{find, slice_set, AllByRecursion}
use Rattle.std.proofs.lemmas.Bool.{eqb-true, eqb-false}
use Rattle.packet_header.specs.declared.packet.MessageHeader.{MessageHeader}
use Rattle.rpc_base.proofs.BasicLemmas.{false-true}
use Rattle.rpc_base.proofs.FirstLemmas.{counted-cons}
use Rattle.rpc_base.proofs.TakingLemmas.{find-passes}
use Rattle.rpc_base.specs.Tables.{at_first, without_first}
use Rattle.rpc_base.specs.declared.event.Event.TheVariants.{Took, Broken, DonePeerLost}
use Rattle.rpc_base.specs.declared.fact.Fact.{Fact}
use Rattle.rpc_base.specs.declared.owner.Owner.TheVariants.{Ask}
use Rattle.rpc_base.proofs.PlaceLemmas.{all-at, set-here, set-other}
use Rattle.rpc_laws.specs.declared.rows.EndRow.{EndRow}
use Rattle.rpc_laws.specs.declared.rows.EndRow.TheVariants.{GoesOn, EndsOk, EndsTooSmall}
use Rattle.rpc_laws.specs.declared.tables.Asking.{Asking}
use Rattle.rpc_laws.specs.declared.tables.Call.{Call}
use Rattle.rpc_laws.specs.declared.tables.Client.{Client}
use Rattle.rpc_laws.specs.declared.tables.Lists.{Lists}
use Rattle.rpc_laws.specs.declared.tables.Progress.{Progress}
use Rattle.rpc_laws.specs.Calls.{is_active, is_call, asked_packets, known_packets, moved}
use Rattle.rpc_laws.specs.Calls.{took_reply, with_reply}
use Rattle.rpc_laws.specs.ClientTable.{end_row, end_facts, client_ending}
use Rattle.rpc_laws.specs.Facts.{plain}
use Rattle.rpc_laws.specs.Front.{front_header, front_body}
use Rattle.rpc_laws.specs.NodeLists.{after, after_all}
use Rattle.rpc_laws.specs.Sessions.{is_client, has_call, takes, breaks, ends}
use Rattle.node_laws.specs.Valid.{Valid, Sound, CallInOrder, InOrder, OrderOf}
use Rattle.node_laws.proofs.Allowed.{AllAllowed, MayTake}
use Rattle.node_laws.proofs.SoundLemmas.{by_request, took-request}
use Rattle.node_laws.proofs.WindowLemmas.{same-request}
use Rattle.node_laws.proofs.ValidLemmas.{valid_after}
use Rattle.end_laws.proofs.CountLemmas.{count-none}
use Rattle.end_laws.proofs.ListLemmas.{find-first, set-first, find-at}
use Rattle.end_laws.proofs.ListLemmas.{set-placed, all-first, all-both}
use Rattle.stall_laws.proofs.CallPlaces.{found-number, counted, few-calls, client-set, owner-at}
use Rattle.stall_laws.proofs.CallPlaces.{one-active}
use Rattle.stall_laws.proofs.OnePlace.{sum-here, placed-all}
use Rattle.stall_laws.proofs.Ongoing.{OngoingBy, OngoingCall, Ongoing, OngoingNode}

-- what is left where the only call of a number is taken out
without-one : {A : Type 0} (P : A → Type 0) (p : A → Bool) (xs : List A) → count_by p xs ≤ 1
    → AllByRecursion (λ x. P x ⊎ (p x ≡ true)) xs → AllByRecursion P (without_first p xs)
without-one P p [] few h = tt
without-one {A} P p (x ∷ xs) few h = by (p x) refl (λ le. without-one P p xs le h.1)
  where
    others : (ys : List A) → AllByRecursion (λ y. (P y ⊎ (p y ≡ true)) × (p y ≡ false)) ys → AllByRecursion P ys
    others [] k = tt
    others (y ∷ ys) k = (elim k.0.0 [ inl here ↦ here | inr t ↦ false-true (sym k.0.1 ∙ t) ], others ys k.1)

    here : (y : A) → p y ≡ false → P y ⊎ (p y ≡ true) → P y
    here y f (inl k) = k
    here y f (inr t) = false-true (sym f ∙ t)

    by : (b : Bool) → p x ≡ b → (count_by p xs ≤ 1 → AllByRecursion P (without_first p xs))
        → AllByRecursion P (cond b xs (x ∷ without_first p xs))
    by true t ih =
        let cons = counted-cons p x xs true t in
        let none = count-none p xs (omega arith) in
        others xs (all-both (λ y. P y ⊎ (p y ≡ true)) (λ y. p y ≡ false) xs h.1 none)
    by false t ih =
        let cons = counted-cons p x xs false t in
        (here x t h.0, ih (omega arith))

-- an answer that isn't whole goes on
goes-apart : (a b : Bool) (size : ℕ) → cond a (EndsTooSmall size) (cond b EndsOk GoesOn) ≡ GoesOn → b ≡ false
goes-apart true b size h = cc
goes-apart false true size h = cc
goes-apart false false size h = refl

goes-on : (a : Asking) (first : Bool) (room : ℕ) (p : Progress) (answer : Option ℕ) → p.answer ≡ answer
    → InOrder (asked_packets a) p → end_row first (asked_packets a) room p.got answer ≡ GoesOn
    → OngoingBy a (Some p)
goes-on a first room p None e o h =
    let told : p.got < asked_packets a = rw e at o.told in rw e told
goes-on a first room p (Some size) e o h =
    let not_all = eqb-false p.got (known_packets (asked_packets a) (Some size))
    (goes-apart (first && nat_lt room size) (p.got == known_packets (asked_packets a) (Some size)) size h) in
    let posted = o.posted in
    let known : p.posted ≤ known_packets (asked_packets a) (Some size) = rw e at o.known in
    rw e (omega arith)

-- a reply is taken, and the call goes on or ends
module _ (clock : ℕ) (l : Lists) (v : Valid l) (on : OngoingNode l) (h : MessageHeader) where
  abbrev s : ℕ
  s = h.session

  abbrev r : ℕ
  r = h.request

  abbrev f : Fact
  f = plain l.me (Took (Ask s r) h.number)

  abbrev l1 : Lists
  l1 = after clock l f

  module _ (m : MayTake l s r h.number) (reads : front_header l.ring ≡ Some h) where
    abbrev x : Client
    x = m.client

    abbrev tk : Progress → Progress
    tk = took_reply clock (front_header l.ring) (front_body l.ring)

    abbrev y : Client
    y = takes clock r (front_header l.ring) (front_body l.ring) x

    valid1 : Valid l1
    valid1 = valid_after clock l f v m

    own : find (is_active r) x.calls ≡ Some m.call
    own = subst (λ (q : ℕ). find (is_active q) x.calls ≡ Some m.call) m.same
        (by_request x m.active.place.test m.call m.progress
        (all-at Sound l.clients (client-set l v s x (takes clock r (front_header l.ring)
        (front_body l.ring)) m.active.place.client).0 x v.sound
        (client-set l v s x (takes clock r (front_header l.ring) (front_body l.ring)) m.active.place.client).1)
        m.active.place.call m.active.active)

    record Place : Type 0 where
      at : ℕ
      was : slice_get l.clients at ≡ Some x
      clients : l1.clients ≡ slice_set l.clients at y

    placed : Place
    placed = let set = client-set l v s x (takes clock r (front_header l.ring)
        (front_body l.ring)) m.active.place.client in
        record { at = set.0; was = set.1; clients = set.3 }

    is-now : slice_get l1.clients placed.at ≡ Some y
    is-now = ap (λ (xs : List Client). slice_get xs placed.at) placed.clients ∙ set-here l.clients placed.at x y
        placed.was

    others : (j : ℕ) (z : Client) → (j ≡ placed.at → ⊥) → slice_get l1.clients j ≡ Some z → Ongoing z
    others j z ne is =
        all-at Ongoing l.clients j z on
        (sym (set-other l.clients placed.at j y ne) ∙ (ap (λ (xs : List Client). slice_get xs j)
        (sym placed.clients) ∙ is))

    -- the calls of the session, where this one may be over
    calls-but : (P : Call → Type 0) → ((c : Call) → OngoingCall c → P c) → P (moved tk m.call)
        → AllByRecursion P y.calls
    calls-but P keep new =
        all-first OngoingCall P (is_active r) (moved tk) x.calls keep
        (λ c found k. let is = own in let same : m.call ≡ c = cc in subst (λ (d : Call). P (moved tk d)) same new)
        (all-at Ongoing l.clients placed.at x on placed.was).calls

    done : OngoingCall (moved tk m.call) → OngoingNode l1
    done new = placed-all Ongoing l1.clients (λ j z is. by j z is (eqb j placed.at) refl)
      where
        by : (j : ℕ) (z : Client) → slice_get l1.clients j ≡ Some z → (b : Bool) → eqb j placed.at ≡ b → Ongoing z
        by j z is true t =
            let here = is-now in
            let again : slice_get l1.clients placed.at ≡ Some z = ap (slice_get l1.clients) (sym
            (eqb-true j placed.at t)) ∙ is in
            let same : y ≡ z = cc in
            let live = m.connected in
            subst Ongoing same (record {
              alive = λ off. false-true (sym off ∙ live);
              calls = calls-but OngoingCall (λ c k. k) new;
            })
        by j z is false t = others j z (eqb-false j placed.at t) is

    abbrev number : ℕ
    number = m.call.what.number

    has : has_call number y ≡ true
    has = found-number (is_active r) y.calls (moved tk m.call) find-first-own
      where
        find-first-own : find (is_active r) y.calls ≡ Some (moved tk m.call)
        find-first-own = find-first (is_active r) (moved tk) x.calls m.call own
            (same-request r tk (λ p. took-request clock (front_header l.ring) (front_body l.ring) p) m.call.progress
            ∙ find-passes (is_active r) x.calls m.call own)

    ended : AllByRecursion Ongoing (at_first (has_call number) (ends number) l1.clients)
    ended =
        let set = owner-at l1 valid1 number placed.at y (ends number) is-now has in
        let few = few-calls l1 valid1 number in
        let le = sum-here (counted l1 valid1 number) l1.clients placed.at y is-now in
        let live = m.connected in
        let left : AllByRecursion OngoingCall (without_first (is_call number) y.calls) =
        without-one OngoingCall (is_call number) y.calls (omega arith)
        (calls-but (λ c. OngoingCall c ⊎ (is_call number c ≡ true)) (λ c k. inl k) (inr (eq-eqb number number refl))) in
        let here : Ongoing (ends number y) = record {
          alive = λ off. false-true (sym off ∙ live);
          calls = left;
        } in
        rw set (placed-all Ongoing (slice_set l1.clients placed.at (ends number y))
        (set-placed (λ j z. Ongoing z) l1.clients placed.at y (ends number y) is-now here others))

    ending-by : (row : EndRow) → end_row (is_none m.progress.answer) (asked_packets m.call.what) m.call.what.room
        (with_reply h (front_body l.ring) m.progress).got (with_reply h (front_body l.ring) m.progress).answer ≡ row
        → OngoingNode (after_all clock l1 (end_facts l.me number (with_reply h
        (front_body l.ring) m.progress).parts row))
    ending-by EndsOk e = ended
    ending-by (EndsTooSmall size) e = ended
    ending-by GoesOn e =
        let now = with_reply h (front_body l.ring) m.progress in
        let at = find-at (is_active r) x.calls m.call own in
        let order : AllByRecursion CallInOrder y.calls = (all-at Sound l1.clients placed.at y valid1.sound
        is-now).order in
        let calls : y.calls ≡ slice_set x.calls at.0 (moved tk m.call) =
        set-first (is_active r) (moved tk) x.calls at.0 m.call at.1 at.2
        (λ j o is_o t. one-active l v r placed.at x placed.was j at.0 o m.call is_o t at.1 at.2) in
        let there : slice_get y.calls at.0 ≡ Some (moved tk m.call) =
        ap (λ (cs : List Call). slice_get cs at.0) calls ∙ set-here x.calls at.0 m.call (moved tk m.call) at.1 in
        let mine : CallInOrder (moved tk m.call) = all-at CallInOrder y.calls at.0 (moved tk m.call) order there in
        let moves : option_map tk m.call.progress ≡ Some (took_reply clock (Some h) (front_body l.ring) m.progress) =
        ap (option_map tk) m.active.active ∙ ap (λ (hd : Option MessageHeader). Some (took_reply clock hd
        (front_body l.ring) m.progress)) reads in
        let in_order : InOrder (asked_packets m.call.what) (took_reply clock (Some h) (front_body l.ring) m.progress) =
        subst (λ (o : Option Progress). OrderOf (asked_packets m.call.what) o) moves mine in
        done (subst (OngoingBy m.call.what) (sym moves)
        (goes-on m.call.what (is_none m.progress.answer) m.call.what.room (took_reply clock (Some h)
        (front_body l.ring) m.progress) _ refl in_order e))

    pub taken-ongoing : OngoingNode (after_all clock l1 (client_ending l.me h (front_body l.ring) (Some x)))
    taken-ongoing =
        rw (own, m.active.active) (ending-by _ refl)

-- a session breaks
pub lost-ongoing : (clock : ℕ) (l : Lists) (me i : ℕ) (y : Client) (cs : List Call) → Valid l
    → AllAllowed clock l (map (λ c. plain me (DonePeerLost c.what.number)) cs)
    → slice_get l.clients i ≡ Some y → y.calls ≡ cs
    → ((j : ℕ) (z : Client) → (j ≡ i → ⊥) → slice_get l.clients j ≡ Some z → Ongoing z)
    → OngoingNode (after_all clock l (map (λ c. plain me (DonePeerLost c.what.number)) cs))
lost-ongoing clock l me i y [] v a there e others =
    placed-all Ongoing l.clients (λ j z is. by j z is (eqb j i) refl)
  where
    by : (j : ℕ) (z : Client) → slice_get l.clients j ≡ Some z → (b : Bool) → eqb j i ≡ b → Ongoing z
    by j z is true t =
        let again : slice_get l.clients i ≡ Some z = ap (slice_get l.clients) (sym (eqb-true j i t)) ∙ is in
        let same : y ≡ z = cc in
        subst Ongoing same (record { alive = λ off. e; calls = rw e tt })
    by j z is false t = others j z (eqb-false j i t) is
lost-ongoing clock l me i y (c ∷ cs) v a there e others =
    let number = c.what.number in
    let f = plain me (DonePeerLost number) in
    let l1 = after clock l f in
    let self = eq-eqb number number refl in
    let own : has_call number y ≡ true = rw (e, self) refl in
    let set = owner-at l v number i y (ends number) there own in
    let left : (ends number y).calls ≡ cs = rw (e, self) refl in
    let now : slice_get l1.clients i ≡ Some (ends number y) =
    ap (λ (xs : List Client). slice_get xs i) set ∙ set-here l.clients i y (ends number y) there in
    lost-ongoing clock l1 me i (ends number y) cs (valid_after clock l f v a.0) a.1 now left
    (λ j z ne is. others j z ne (sym (set-other l.clients i j (ends number y) ne)
    ∙ (ap (λ (xs : List Client). slice_get xs j) (sym set) ∙ is)))

pub breaks-ongoing : (clock : ℕ) (l : Lists) (me : ℕ) (x : Client) (calls : List Call) → Valid l → OngoingNode l
    → AllAllowed clock l (plain me (Broken x.way.number) ∷ map (λ c. plain me (DonePeerLost c.what.number)) calls)
    → find (is_client x.way.number) l.clients ≡ Some x → x.calls ≡ calls
    → OngoingNode (after_all clock l (plain me (Broken x.way.number)
    ∷ map (λ c. plain me (DonePeerLost c.what.number)) calls))
breaks-ongoing clock l me x calls v on a found same =
    let n = x.way.number in
    let f = plain me (Broken n) in
    let l1 = after clock l f in
    let set = client-set l v n x breaks found in
    let now : slice_get l1.clients set.0 ≡ Some (breaks x) =
    ap (λ (xs : List Client). slice_get xs set.0) set.3 ∙ set-here l.clients set.0 x (breaks x) set.1 in
    lost-ongoing clock l1 me set.0 (breaks x) calls (valid_after clock l f v a.0) a.1 now same
    (λ j z ne is. all-at Ongoing l.clients j z on (sym (set-other l.clients set.0 j (breaks x) ne)
    ∙ (ap (λ (xs : List Client). slice_get xs j) (sym set.3) ∙ is)))
