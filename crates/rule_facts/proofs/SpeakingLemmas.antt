-- A control packet that is handed to the link, by its fact.
use Rattle.std.proofs.Common.{◌≡◌, ℕ, Bool, true, false, ◌&&◌, List, [], ◌∷◌, ◌++◌, length, refl, sym, ap, ◌∙◌}
use Rattle.std.proofs.Common.{append_assoc, drop, None, Some, subst, take, ◌+◌}
use Rattle.std.specs.Prelude.{◌==◌}
use Rattle.std.proofs.lemmas.Bool.{and_parts, eq-eqb, eqb-true}
use Rattle.std.proofs.lemmas.List.{drop_at, nil_from_length}
use Rattle.packet_header.specs.declared.packet.ControlHeader.{ControlHeader}
use Rattle.packet_header.specs.declared.packet.Packet.TheVariants.{Control as ControlPacket}
use Rattle.rpc_base.specs.declared.event.Event.{Event}
use Rattle.rpc_base.specs.declared.event.Event.TheVariants.{Sent, Unsent}
use Rattle.rpc_base.specs.declared.fact.Fact.{Fact}
use Rattle.rpc_base.specs.declared.fact.Who.{Who}
use Rattle.rpc_base.specs.declared.owner.Owner.TheVariants.{Control}
use Rattle.rpc_base.specs.declared.fact.Who.TheVariants.{Node}
use Rattle.rpc_base.specs.Owners.{same_owner}
use Rattle.rpc_laws.specs.declared.rows.ControlRow.{ControlRow}
use Rattle.rpc_laws.specs.declared.tables.Lists.{Lists}
use Rattle.rpc_laws.specs.declared.tables.Timed.{Timed}
use Rattle.rpc_laws.specs.ControlSteps.{AnswersControl, control_fact, Speaks, SpeaksIf}
use Rattle.rpc_laws.specs.ControlTable.{control_facts, control_reply, control_row}
use Rattle.rule_facts.specs.Fronts.{Fronts, Starts}
use Rattle.rule_facts.specs.Heads.{IsSpelled}
use Rattle.node_rules.specs.SingleFacts.{at_clock}
use Rattle.rule_facts.specs.Speaking.{Answer, AnswerNone, RowAnswer, RowAnswerNone, says_handed, SpeakNone}
use Rattle.rule_facts.specs.Speaking.{tells_handed}
use Rattle.rule_facts.specs.Tells.{is_node}
use Rattle.rule_facts.proofs.FrontLemmas.{front-taken, take_more_drop}
use Rattle.rule_facts.proofs.SaysLemmas.{own-node, same-owner}

-- the event says whether the link took it
data Handed (peer : ℕ) (e : Event) : Type 0 where
  took : e ≡ Sent peer Control 0 → Handed peer e
  refused : e ≡ Unsent peer → Handed peer e

handed-event : (peer : ℕ) (e : Event) → tells_handed peer e ≡ true → Handed peer e
handed-event peer (Sent p o k) h =
    let parts = and_parts (p == peer) (same_owner o Control && (k == 0)) h in
    let rest = and_parts (same_owner o Control) (k == 0) parts.1 in
    took (rw (eqb-true p peer parts.0, same-owner o Control rest.0, eqb-true k 0 rest.1) refl)
handed-event peer (Unsent p) h = refused (ap Unsent (eqb-true p peer h))
handed-event peer _ h = cc

fact-is : (f : Fact) (me : ℕ) (e : Event) → f.who ≡ Node me → f.event ≡ e → f.second ≡ []
    → f ≡ record { who = Node me; event = e; first = f.first; second = [] }
fact-is f me e a b c =
    ap (λ (w : Who). record f { who = w }) a ∙ (ap (λ (d : Event). record f { who = Node me; event = d }) b
    ∙ ap (λ (xs : List ℕ). record f { who = Node me; event = e; second = xs }) c)

handed-fact : (me peer : ℕ) (f : Fact) → says_handed me peer f ≡ true
    → (taken : Bool) × (f ≡ control_fact taken me peer f.first)
handed-fact me peer f h =
    let one = and_parts (is_node me f.who) (tells_handed peer f.event && (length f.second == 0)) h in
    let two = and_parts (tells_handed peer f.event) (length f.second == 0) one.1 in
    let bare : f.second ≡ [] = nil_from_length f.second (eqb-true (length f.second) 0 two.1) in
    by (own-node me f.who one.0) bare (handed-event peer f.event two.0)
  where
    by : f.who ≡ Node me → f.second ≡ [] → Handed peer f.event
        → (taken : Bool) × (f ≡ control_fact taken me peer f.first)
    by who bare (took e) = (true, fact-is f me (Sent peer Control 0) who e bare)
    by who bare (refused e) = (false, fact-is f me (Unsent peer) who e bare)

says-own : (taken : Bool) (me peer : ℕ) (head : List ℕ) → says_handed me peer (control_fact taken me peer head) ≡ true
says-own true me peer head = rw (eq-eqb me me refl, eq-eqb peer peer refl) refl
says-own false me peer head = rw (eq-eqb me me refl, eq-eqb peer peer refl) refl

first-own : (taken : Bool) (me peer : ℕ) (head : List ℕ) → (control_fact taken me peer head).first ≡ head
first-own true me peer head = refl
first-own false me peer head = refl

-- a fact that passes both tests hands the packet to the link
pub speaks-one : (me peer : ℕ) (h : ControlHeader) (f : Fact) → says_handed me peer f ≡ true
    → IsSpelled (ControlPacket h) f.first → Speaks me peer h (f ∷ [])
speaks-one me peer h f says spelled =
    let is = handed-fact me peer f says in
    record {
      taken = is.0;
      head = f.first;
      bytes = spelled.1.0;
      spells = record { head = spelled.1.2; in_range = spelled.0; long = spelled.1.1 };
      facts = ap (λ (z : Fact). z ∷ []) is.1;
    }

-- and the first fact of any that do passes them
pub record SpokenBy (me peer : ℕ) (h : ControlHeader) (f : Fact) : Type 0 where
  pub says : says_handed me peer f ≡ true
  pub spelled : IsSpelled (ControlPacket h) f.first

pub spoken-first : (me peer : ℕ) (h : ControlHeader) (f : Fact) (rest x : List Fact) → Starts x (f ∷ rest)
    → Speaks me peer h x → SpokenBy me peer h f
spoken-first me peer h f rest x begins s =
    let whole : f ∷ rest ≡ control_fact s.taken me peer s.head ∷ begins.rest =
    begins.parted ∙ ap (λ (z : List Fact). z ++ begins.rest) s.facts in
    let same : f ≡ control_fact s.taken me peer s.head = cc in
    let first : f.first ≡ s.head = ap (λ (z : Fact). z.first) same ∙ first-own s.taken me peer s.head in
    record {
      says = ap (says_handed me peer) same ∙ says-own s.taken me peer s.head;
      spelled = subst (λ (z : List ℕ). IsSpelled (ControlPacket h) z) (sym first)
          (s.spells.in_range, (s.bytes, s.spells.long, s.spells.head));
    }

-- nothing hands nothing
pub spoken-nothing : (me peer : ℕ) (h : ControlHeader) (facts : List Fact) → length facts ≡ 0
    → SpeakNone me peer h facts
spoken-nothing me peer h facts e x begins s =
    let none : facts ≡ [] = nil_from_length facts e in
    let whole : [] ≡ control_fact s.taken me peer s.head ∷ begins.rest =
    sym none ∙ (begins.parted ∙ ap (λ (z : List Fact). z ++ begins.rest) s.facts) in
    cc

-- the first fact alone does so then
pub speaks-front : (me peer : ℕ) (h : ControlHeader) (f : Fact) (rest x : List Fact) → Starts x (f ∷ rest)
    → Speaks me peer h x → Speaks me peer h (f ∷ [])
speaks-front me peer h f rest x begins s =
    let b = spoken-first me peer h f rest x begins s in speaks-one me peer h f b.says b.spelled

pub spoken-alone : (me peer : ℕ) (h : ControlHeader) (f : Fact) → Speaks me peer h (f ∷ []) → SpokenBy me peer h f
spoken-alone me peer h f s = spoken-first me peer h f [] (f ∷ []) (record { rest = []; parted = refl }) s

-- the facts of a row, with its answer
row-front : (s : Lists) (peer : ℕ) (h : ControlHeader) (row : ControlRow) (facts said : List Fact) (n m : ℕ)
    → Fronts (control_facts s peer h row) facts (Some n) → take m (drop n facts) ≡ said
    → take (n + m) facts ≡ control_facts s peer h row ++ said
row-front s peer h row facts said n m front e =
    take_more_drop facts n m
    ∙ (ap (λ (z : List Fact). take n facts ++ z) e
    ∙ ap (λ (z : List Fact). z ++ said) (front-taken (control_facts s peer h row) facts n front))

pub row-answers : (s : Lists) (peer : ℕ) (h : ControlHeader) (row : ControlRow) (facts : List Fact) (n m : ℕ)
    → Fronts (control_facts s peer h row) facts (Some n)
    → SpeaksIf s.me peer (control_reply s.life h row) (take m (drop n facts))
    → RowAnswer s peer h row (take (n + m) facts)
row-answers s peer h row facts n m front speaks = record {
  said = take m (drop n facts);
  speaks = speaks;
  facts = row-front s peer h row facts (take m (drop n facts)) n m front refl;
}

-- the facts aren't those of the row
pub row-other : (s : Lists) (peer : ℕ) (h : ControlHeader) (row : ControlRow) (facts : List Fact)
    → Fronts (control_facts s peer h row) facts None → RowAnswerNone s peer h row facts
row-other s peer h row facts front x begins a =
    front.only refl (record {
      rest = a.said ++ begins.rest;
      parted = begins.parted ∙ (ap (λ (z : List Fact). z ++ begins.rest) a.facts
          ∙ append_assoc (control_facts s peer h row) a.said begins.rest);
    })

-- they are, and the answer doesn't follow
pub row-silent : (s : Lists) (peer : ℕ) (h : ControlHeader) (row : ControlRow) (facts : List Fact) (n : ℕ)
    → Fronts (control_facts s peer h row) facts (Some n)
    → ((x : List Fact) → Starts x (drop n facts) → SpeaksIf s.me peer (control_reply s.life h row) x → ⊥)
    → RowAnswerNone s peer h row facts
row-silent s peer h row facts n front silent x begins a =
    let whole : facts ≡ control_facts s peer h row ++ (a.said ++ begins.rest) =
    begins.parted ∙ (ap (λ (z : List Fact). z ++ begins.rest) a.facts
    ∙ append_assoc (control_facts s peer h row) a.said begins.rest) in
    let long : n ≡ length (control_facts s peer h row) = front.some.0 in
    let left : drop n facts ≡ a.said ++ begins.rest =
    ap (λ (z : List Fact). drop n z) whole
    ∙ drop_at (control_facts s peer h row) (a.said ++ begins.rest) n (sym long) in
    silent a.said (record { rest = begins.rest; parted = left }) a.speaks

-- the answer of a node, by either row
pub by-row : (s : Lists) (peer : ℕ) (h : ControlHeader) (lacks : Bool) (row : ControlRow) (x : List Fact)
    → row ≡ control_row lacks peer h s → RowAnswer s peer h row x → Answer s peer h x
by-row s peer h lacks row x e a clock = record {
  lacks = lacks;
  said = a.said;
  speaks = subst (λ (r : ControlRow). SpeaksIf s.me peer (control_reply s.life h r) a.said) e a.speaks;
  facts = a.facts ∙ ap (λ (r : ControlRow). control_facts s peer h r ++ a.said) e;
  goes = refl;
}

as-row : (s : Lists) (peer : ℕ) (h : ControlHeader) (clock : ℕ) (x : List Fact) (t : Timed) (lacks : Bool)
    (a : AnswersControl peer h (at_clock clock s) x t) → a.lacks ≡ lacks
    → RowAnswer s peer h (control_row lacks peer h s) x
as-row s peer h clock x t lacks a e = record {
  said = a.said;
  speaks = subst (λ (b : Bool). SpeaksIf s.me peer (control_reply s.life h (control_row b peer h s)) a.said) e a.speaks;
  facts = a.facts ∙ ap (λ (b : Bool). control_facts s peer h (control_row b peer h s) ++ a.said) e;
}

pub neither-row : (s : Lists) (peer : ℕ) (h : ControlHeader) (row other : ControlRow) (facts : List Fact)
    → row ≡ control_row false peer h s → other ≡ control_row true peer h s
    → RowAnswerNone s peer h row facts → RowAnswerNone s peer h other facts → AnswerNone s peer h facts
neither-row s peer h row other facts e g one two clock x t begins a = by a.lacks refl
  where
    by : (lacks : Bool) → a.lacks ≡ lacks → ⊥
    by false is =
        one x begins (subst (λ (r : ControlRow). RowAnswer s peer h r x) (sym e) (as-row s peer h clock x t false a is))
    by true is =
        two x begins (subst (λ (r : ControlRow). RowAnswer s peer h r x) (sym g) (as-row s peer h clock x t true a is))
