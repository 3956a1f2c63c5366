-- The facts of a packet of the ring in front of those that follow, whatever memory wants and the handler answers.
use Rattle.std.proofs.Common.{◌≡◌, ◌+◌, ◌-◌, ◌≤◌, ℕ, Bool, true, false, ◌&&◌, cond, Option, Some, None, List, [], ◌∷◌}
use Rattle.std.proofs.Common.{◌++◌, drop, length, take, refl, sym, ap, ap₂, ◌∙◌, subst}
use Rattle.std.specs.Bool.{Decides}
use Rattle.std.specs.List.{find}
use Rattle.std.specs.Prelude.{◌==◌, ◌↔◌, IsTrue}
use Rattle.std.specs.Str.{bytes_eq}
use Rattle.std.proofs.Math.Seq.{drop-append_seam, take-append_seam}
use Rattle.std.proofs.lemmas.Bool.{and_from, and_parts, eq-eqb, eqb-true}
use Rattle.std.proofs.lemmas.Bool.Decides.{Decides-and, same_from_decides}
use Rattle.std.proofs.lemmas.List.{length-append, nil_from_length, take-append-drop}
use Rattle.std.proofs.lemmas.Slice.Eq.{bytes_eq-Decides}
use Rattle.packet_header.specs.declared.packet.Kind.{Kind}
use Rattle.packet_header.specs.declared.packet.MessageHeader.{MessageHeader}
use Rattle.rpc_base.specs.declared.event.Event.{Event}
use Rattle.rpc_base.specs.declared.event.Event.TheVariants.{DoneOk, Dropped, Given, Posted, Ran}
use Rattle.rpc_base.specs.declared.fact.Fact.{Fact}
use Rattle.rpc_base.specs.declared.fact.Who.{Who}
use Rattle.rpc_base.specs.declared.fact.Who.TheVariants.{Node}
use Rattle.rpc_base.specs.declared.owner.Owner.TheVariants.{Reply}
use Rattle.rpc_base.specs.declared.state.DropReason.TheVariants.{StaleLife}
use Rattle.rpc_laws.specs.declared.rows.ServerRow.{ServerRow}
use Rattle.rpc_laws.specs.declared.tables.Lists.{Lists}
use Rattle.rpc_laws.specs.Facts.{plain, with_bytes, with_two}
use Rattle.rpc_laws.specs.Jobs.{are_full}
use Rattle.rpc_laws.specs.PollOrder.{handling_by}
use Rattle.rpc_laws.specs.Requests.{is_server}
use Rattle.rpc_laws.specs.ServerTable.{brings, is_last, makes_job, server_row}
use Rattle.rpc_outside.specs.declared.service.Mode.{Mode}
use Rattle.rpc_outside.specs.PlainAnswer.{plain_mode}
use Rattle.rule_facts.specs.Fronts.{Fronts, Starts, told_answer}
use Rattle.rule_facts.specs.Handling.{asked_facts, FrontsAt, handled_facts, row_facts, says_done_ok, SomeFronts}
use Rattle.rule_facts.specs.Handling.{tells_done_ok, Untold}
use Rattle.rule_facts.specs.Tells.{is_node}
use Rattle.rule_facts.proofs.FrontLemmas.{front-taken, fronts-both, fronts-first}
use Rattle.rule_facts.proofs.FrontLemmas.{fronts-second, fronts-within, rest-is}
use Rattle.rule_facts.proofs.SaysLemmas.{own-node}

-- bytes in two pieces
joined-eq : (told x y : List ℕ)
    → (bytes_eq (take (length x) told) x && bytes_eq (drop (length x) told) y) ≡ bytes_eq told (x ++ y)
joined-eq told x y =
    let front : Bool = bytes_eq (take (length x) told) x in
    let back : Bool = bytes_eq (drop (length x) told) y in
    let both = Decides-and front back (bytes_eq-Decides (take (length x) told) x)
    (bytes_eq-Decides (drop (length x) told) y) in
    let whole : Decides (front && back) (told ≡ x ++ y) = (
      λ e. let p = both.0 e in
          sym (take-append-drop (length x) told) ∙ ap₂ (λ (a b : List ℕ). a ++ b) p.0 p.1,
      λ e. both.1 (
        ap (take (length x)) e ∙ take-append_seam x y,
        ap (drop (length x)) e ∙ drop-append_seam x y,
      ),
    ) in
    same_from_decides (front && back) (bytes_eq told (x ++ y)) whole (bytes_eq-Decides told (x ++ y))

-- as they are compared, the second only where the first is the same
pub joined-by : (told x y front back : List ℕ) (n : ℕ) (a b : Bool) → n ≡ length x → front ≡ take n told
    → back ≡ drop n told → a ≡ bytes_eq front x → b ≡ bytes_eq back y → (a && b) ≡ bytes_eq told (x ++ y)
joined-by told x y front back n a b e f g h k =
    let one : a ≡ bytes_eq (take (length x) told) x =
    h ∙ ap (λ (z : List ℕ). bytes_eq z x) (f ∙ ap (λ (m : ℕ). take m told) e) in
    let two : b ≡ bytes_eq (drop (length x) told) y =
    k ∙ ap (λ (z : List ℕ). bytes_eq z y) (g ∙ ap (λ (m : ℕ). drop m told) e) in
    ap₂ (λ (c d : Bool). c && d) one two ∙ joined-eq told x y

pub unjoined : (told x y : List ℕ) → (length told ≡ length x + length y → ⊥) → false ≡ bytes_eq told (x ++ y)
unjoined told x y differs =
    let never : Decides false (told ≡ x ++ y) = (
      λ e. cc,
      λ e. absurd (differs (ap length e ∙ length-append x y)),
    ) in
    same_from_decides false (bytes_eq told (x ++ y)) never (bytes_eq-Decides told (x ++ y))

-- a fact that passes the tests of a call that ended with its answer is that fact, and no other does
done-event : (call : ℕ) (e : Event) → tells_done_ok call e ≡ true → e ≡ DoneOk call
done-event call (DoneOk c) h = ap DoneOk (eqb-true c call h)
done-event call _ h = cc

done-is : (me call : ℕ) (answer : List ℕ) (f : Fact) → says_done_ok me call answer f ≡ true
    → f ≡ with_bytes me (DoneOk call) answer
done-is me call answer f h =
    let p = and_parts (is_node me f.who)
    (tells_done_ok call f.event && (bytes_eq f.first answer && (length f.second == 0))) h in
    let q = and_parts (tells_done_ok call f.event) (bytes_eq f.first answer && (length f.second == 0)) p.1 in
    let r = and_parts (bytes_eq f.first answer) (length f.second == 0) q.1 in
    let first : f.first ≡ answer = (bytes_eq-Decides f.first answer).0 r.0 in
    let second : f.second ≡ [] = nil_from_length f.second (eqb-true (length f.second) 0 r.1) in
    let own : f ≡ record f { who = Node me } = ap (λ (w : Who). record f { who = w }) (own-node me f.who p.0) in
    let ended : f ≡ record f { who = Node me; event = DoneOk call } =
    own ∙ ap (λ (d : Event). record f { who = Node me; event = d }) (done-event call f.event q.0) in
    ended
    ∙ (ap (λ (xs : List ℕ). record { who = Node me; event = DoneOk call; first = xs; second = f.second }) first
    ∙ ap (λ (xs : List ℕ). record { who = Node me; event = DoneOk call; first = answer; second = xs }) second)

pub says-done-ok : (me call : ℕ) (answer : List ℕ) (f : Fact)
    → IsTrue (says_done_ok me call answer f) ↔ (f ≡ with_bytes me (DoneOk call) answer)
says-done-ok me call answer f = (
  done-is me call answer f,
  λ e. subst (λ (z : Fact). says_done_ok me call answer z ≡ true) (sym e)
      (and_from _ _ (eq-eqb me me refl) (and_from _ _ (eq-eqb call call refl)
      (and_from _ _ ((bytes_eq-Decides answer answer).1 refl) refl))),
)

-- facts that are the same in each case
pub some-fixed : (x facts : List Fact) (o : Option ℕ) → Fronts x facts o → SomeFronts (λ case. x) facts o
some-fixed x facts (Some n) h = record {
  some = record { case = record { lacks = false; answer = [] }; long = h.some.0; starts = h.some.1 };
  only = λ no. cc;
}
some-fixed x facts None h = record { some = tt; only = λ no case begins. h.only refl begins }

-- in one case
some-at : (X : Untold → List Fact) (case : Untold) (facts : List Fact) (n : ℕ) → Fronts (X case) facts (Some n)
    → SomeFronts X facts (Some n)
some-at X case facts n h = record {
  some = record { case = case; long = h.some.0; starts = h.some.1 };
  only = λ no. cc;
}

fronts-at : (X : Untold → List Fact) (facts : List Fact) (n : ℕ) → (h : FrontsAt X facts n)
    → Fronts (X h.case) facts (Some n)
fronts-at X facts n h = record { some = (h.long, h.starts); only = λ no. cc }

-- what a packet that is taken brings has the answer that the first of the facts tells
abbrev brought : (job last : Bool) → ℕ → MessageHeader → (ask answer : List ℕ) → List Fact
brought job last me h ask answer =
    cond job (plain me (Given h.session h.request) ∷ [])
    (cond last (with_two me (Ran h.session h.request h.req_type) ask answer ∷ []) []
    ++ plain me (Posted (Reply h.session h.request) h.number) ∷ [])

brought-told : (job last : Bool) (me : ℕ) (h : MessageHeader) (ask answer : List ℕ) (rest facts : List Fact)
    → facts ≡ brought job last me h ask answer ++ rest
    → brought job last me h ask answer ≡ brought job last me h ask (told_answer facts)
brought-told true last me h ask answer rest facts e = refl
brought-told false false me h ask answer rest facts e = refl
brought-told false true me h ask answer rest facts e =
    ap (λ (z : List ℕ). brought false true me h ask z) (sym (ap told_answer e))

brings-told : (mode : Mode) (me : ℕ) (h : MessageHeader) (ask answer : List ℕ) (rest facts : List Fact)
    → facts ≡ brings mode me answer h ask ++ rest
    → brings mode me answer h ask ≡ brings mode me (told_answer facts) h ask
brings-told mode me h ask answer rest facts e =
    brought-told (makes_job mode h) (is_last h) me h ask answer rest facts e

pub told-by : (mode : Mode) (me : ℕ) (h : MessageHeader) (ask : List ℕ) (facts : List Fact) (o : Option ℕ)
    → Fronts (brings mode me (told_answer facts) h ask) facts o
    → SomeFronts (λ case. brings mode me case.answer h ask) facts o
told-by mode me h ask facts (Some n) k =
    some-at (λ case. brings mode me case.answer h ask) (record { lacks = false; answer = told_answer facts }) facts n k
told-by mode me h ask facts None k = record {
  some = tt;
  only = λ no case begins.
      k.only refl (record {
        rest = begins.rest;
        parted = begins.parted
            ∙ ap (λ (z : List Fact). z ++ begins.rest)
            (brings-told mode me h ask case.answer begins.rest facts begins.parted);
      });
}

-- facts of a rule behind those that are the same in each case
pub behind-some : (x : List Fact) (X : Untold → List Fact) (facts : List Fact) (n m : ℕ) → Fronts x facts (Some n)
    → SomeFronts X (take (length facts - n) (drop n facts)) (Some m) → SomeFronts (λ case. x ++ X case) facts (Some (n + m))
behind-some x X facts n m h k =
    let rest : SomeFronts X (drop n facts) (Some m) =
    subst (λ (z : List Fact). SomeFronts X z (Some m)) (rest-is facts n (fronts-within x facts n h)) k in
    some-at (λ case. x ++ X case) rest.some.case facts (n + m)
    (fronts-both x (X rest.some.case) facts n m h (fronts-at X (drop n facts) m rest.some))

pub behind-none : (x : List Fact) (X : Untold → List Fact) (facts : List Fact) (n : ℕ) → Fronts x facts (Some n)
    → SomeFronts X (take (length facts - n) (drop n facts)) None → SomeFronts (λ case. x ++ X case) facts None
behind-none x X facts n h k =
    let rest : SomeFronts X (drop n facts) None =
    subst (λ (z : List Fact). SomeFronts X z None) (rest-is facts n (fronts-within x facts n h)) k in
    record {
      some = tt;
      only = λ no case begins.
          (fronts-second x (X case) facts n h
          (record { some = tt; only = λ none b. rest.only refl case b })).only refl begins;
    }

pub before-none : (x : List Fact) (X : Untold → List Fact) (facts : List Fact) → Fronts x facts None
    → SomeFronts (λ case. x ++ X case) facts None
before-none x X facts h = record {
  some = tt;
  only = λ no case begins. (fronts-first x (X case) facts h).only refl begins;
}

-- the row of a packet, whether memory is wanting or not
abbrev row_at : Lists → (peer : ℕ) → MessageHeader → Bool → ServerRow
row_at s peer h lacks =
    server_row (plain_mode h.req_type) (are_full s.jobs) lacks (find (is_server h.session) s.servers) peer h

-- the row that the code finds
pub record FoundRow (s : Lists) (peer : ℕ) (h : MessageHeader) (lacks : Bool) (mode : Mode) (full : Bool)
    (row : ServerRow) : Type 0 where
  pub plain : mode ≡ plain_mode h.req_type
  pub fills : full ≡ are_full s.jobs
  pub found : row ≡ server_row mode full lacks (find (is_server h.session) s.servers) peer h

row-is : (s : Lists) (peer : ℕ) (h : MessageHeader) (lacks : Bool) (mode : Mode) (full : Bool) (row : ServerRow)
    → FoundRow s peer h lacks mode full row → row ≡ row_at s peer h lacks
row-is s peer h lacks mode full row r =
    r.found
    ∙ ap₂ (λ (m : Mode) (b : Bool). server_row m b lacks (find (is_server h.session) s.servers) peer h) r.plain r.fills

-- its facts are those of the packet
own-row : (s : Lists) (peer : ℕ) (h : MessageHeader) (body : List ℕ) (lacks : Bool) (mode : Mode) (full : Bool)
    (row : ServerRow) (answer : List ℕ) → FoundRow s peer h lacks mode full row
    → row_facts mode s h body row (record { lacks = lacks; answer = answer })
    ≡ asked_facts s peer h body (record { lacks = lacks; answer = answer })
own-row s peer h body lacks mode full row answer r =
    ap₂ (λ (m : Mode) (z : ServerRow). row_facts m s h body z (record { lacks = lacks; answer = answer })) r.plain
    (row-is s peer h lacks mode full row r)

pub by-row : (s : Lists) (peer : ℕ) (h : MessageHeader) (body : List ℕ) (lacks : Bool) (mode : Mode) (full : Bool)
    (row : ServerRow) (facts : List Fact) (n : ℕ) → FoundRow s peer h lacks mode full row
    → SomeFronts (row_facts mode s h body row) facts (Some n) → SomeFronts (asked_facts s peer h body) facts (Some n)
by-row s peer h body lacks mode full row facts n r k =
    some-at (asked_facts s peer h body) (record { lacks = lacks; answer = k.some.case.answer }) facts n
    (subst (λ (z : List Fact). Fronts z facts (Some n)) (own-row s peer h body lacks mode full row k.some.case.answer r)
    (fronts-at (row_facts mode s h body row) facts n k.some))

no-row : (s : Lists) (peer : ℕ) (h : MessageHeader) (body : List ℕ) (lacks : Bool) (mode : Mode) (full : Bool)
    (row : ServerRow) (facts : List Fact) (answer : List ℕ) → FoundRow s peer h lacks mode full row
    → SomeFronts (row_facts mode s h body row) facts None
    → Starts (asked_facts s peer h body (record { lacks = lacks; answer = answer })) facts → ⊥
no-row s peer h body lacks mode full row facts answer r k begins =
    k.only refl (record { lacks = lacks; answer = answer })
    (subst (λ (z : List Fact). Starts z facts) (sym (own-row s peer h body lacks mode full row answer r)) begins)

neither-row : (s : Lists) (peer : ℕ) (h : MessageHeader) (body : List ℕ) (mode : Mode) (full : Bool)
    (row other : ServerRow) (facts : List Fact) → FoundRow s peer h false mode full row
    → FoundRow s peer h true mode full other → SomeFronts (row_facts mode s h body row) facts None
    → SomeFronts (row_facts mode s h body other) facts None → SomeFronts (asked_facts s peer h body) facts None
neither-row s peer h body mode full row other facts r q one two = record {
  some = tt;
  only = λ no case begins. by case.lacks case.answer begins;
}
  where
    by : (lacks : Bool) (answer : List ℕ)
        → Starts (asked_facts s peer h body (record { lacks = lacks; answer = answer })) facts → ⊥
    by false answer begins = no-row s peer h body false mode full row facts answer r one begins
    by true answer begins = no-row s peer h body true mode full other facts answer q two begins

pub with-row : (s : Lists) (peer : ℕ) (h : MessageHeader) (body : List ℕ) (mode : Mode) (full : Bool)
    (row other : ServerRow) (facts : List Fact) (o : Option ℕ) → FoundRow s peer h false mode full row
    → FoundRow s peer h true mode full other → SomeFronts (row_facts mode s h body row) facts None
    → SomeFronts (row_facts mode s h body other) facts o → SomeFronts (asked_facts s peer h body) facts o
with-row s peer h body mode full row other facts (Some n) r q one two =
    by-row s peer h body true mode full other facts n q two
with-row s peer h body mode full row other facts None r q one two =
    neither-row s peer h body mode full row other facts r q one two

-- a packet for this life is handled by its kind
abbrev kind_facts : Lists → (peer : ℕ) → MessageHeader → List ℕ → Kind → Untold → List Fact
kind_facts s peer h body kind case = handling_by plain_mode case.lacks case.answer kind s peer h body

abbrev for_life : Bool → Lists → (peer : ℕ) → MessageHeader → List ℕ → Kind → Untold → List Fact
for_life its s peer h body kind case =
    cond its (kind_facts s peer h body kind case) (plain s.me (Dropped StaleLife) ∷ [])

pub stale : (s : Lists) (peer : ℕ) (h : MessageHeader) (body : List ℕ) (facts : List Fact) (o : Option ℕ)
    → (h.to_life == s.life) ≡ false → Fronts (plain s.me (Dropped StaleLife) ∷ []) facts o
    → SomeFronts (handled_facts s peer h body) facts o
stale s peer h body facts o e k =
    subst (λ (b : Bool). SomeFronts (for_life b s peer h body h.kind) facts o) (sym e)
    (some-fixed (plain s.me (Dropped StaleLife) ∷ []) facts o k)

pub by-kind : (s : Lists) (peer : ℕ) (h : MessageHeader) (body : List ℕ) (kind : Kind) (facts : List Fact)
    (o : Option ℕ) → (h.to_life == s.life) ≡ true → h.kind ≡ kind
    → SomeFronts (kind_facts s peer h body kind) facts o → SomeFronts (handled_facts s peer h body) facts o
by-kind s peer h body kind facts o e is k =
    subst (λ (b : Bool). SomeFronts (for_life b s peer h body h.kind) facts o) (sym e)
    (subst (λ (z : Kind). SomeFronts (kind_facts s peer h body z) facts o) (sym is) k)

-- the facts that were found, and that there are so many
pub some-front : (X : Untold → List Fact) (facts : List Fact) (n : ℕ) → (h : FrontsAt X facts n)
    → take n facts ≡ X h.case
some-front X facts n h = front-taken (X h.case) facts n (fronts-at X facts n h)

pub some-within : (X : Untold → List Fact) (facts : List Fact) (n : ℕ) → FrontsAt X facts n → n ≤ length facts
some-within X facts n h = fronts-within (X h.case) facts n (fronts-at X facts n h)
