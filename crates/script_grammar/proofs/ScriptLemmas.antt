-- What the grammar accepts is a script.
use Rattle.std.proofs.Common.{◌≡◌, ◌≢◌, ℕ, ◌+◌, ◌<◌, ◌≤◌, Bool, true, false, cond, ◌||◌, nat_lt}
use Rattle.std.proofs.Common.{nat_le, List, [], ◌∷◌, ◌++◌, length, Option, Some, None, Result, Ok}
use Rattle.std.proofs.Common.{Err, ◌⊎◌, inl, inr, refl, sym, ap, subst, ◌∙◌, All, codes, add-zero}
use Rattle.std.proofs.Common.{arith}
use Rattle.std.proofs.lemmas.Bool.Decides.{nat_tests}
use Rattle.std.proofs.lemmas.List.Elements.{All-cons}
use Rattle.script_grammar.specs.declared.bad.BadScript.{BadScript}
use Rattle.script_grammar.specs.declared.bad.BadWhy.{BadWhy}
use Rattle.script_grammar.specs.declared.bad.BadWhy.TheVariants.{TooLong, Lines, First, Nodes}
use Rattle.script_grammar.specs.declared.before.Before.{Before}
use Rattle.script_grammar.specs.declared.line.Command.{Command}
use Rattle.script_grammar.specs.declared.line.Command.TheVariants.{Node, Pair, Connect, Disconnect}
use Rattle.script_grammar.specs.declared.line.Command.TheVariants.{Rate, Call, Poll, Arrive, Lose}
use Rattle.script_grammar.specs.declared.line.Command.TheVariants.{Repeat, Tick, Work, Settle, Restart}
use Rattle.script_grammar.specs.declared.line.Line.{Line}
use Rattle.script_grammar.specs.Commands.{command_in}
use Rattle.script_grammar.specs.Conditions.{IsInRange, IsNode, IsAmong, IsRising, IsScript}
use Rattle.script_grammar.specs.Lines.{lines_of}
use Rattle.script_grammar.specs.Rules.{names_one, names_two, misnamed, unless, node_admitted}
use Rattle.script_grammar.specs.Rules.{other_admitted, admitted}
use Rattle.script_grammar.specs.Script.{bad_at, put_before, with_line, is_passed_over, line_in}
use Rattle.script_grammar.specs.Script.{lines_in, text_in, script_of}
use Rattle.script_grammar.specs.Words.{◌>>=◌, words_of, is_word}

-- the rules on nodes, read backwards

below : (a n : ℕ) → names_one n a ≡ None → a < n
unfolding names_one
below a n h = grind (arith, nat_tests)

both_below : (a b n : ℕ) → names_two n a b ≡ None → (a < n) × (b < n) × (a ≢ b)
unfolding names_two
both_below a b n h = grind (arith, nat_tests)

record IsOther (before after : Before) (wrong : Option BadWhy) : Type 0 where
  right : wrong ≡ None
  enough : 2 ≤ before.nodes
  next : after ≡ record { nodes = before.nodes; begun = true }

other_cases : (few : Bool) (before after : Before) (wrong : Option BadWhy) → few ≡ nat_lt before.nodes 2
    → cond few (Err Nodes) (unless wrong (record before { begun = true })) ≡ Ok after → IsOther before after wrong
other_cases true before after wrong e h = absurd (cc)
other_cases false before after (Some why) e h = absurd (cc)
other_cases false before after None e h = record { right = refl; enough = grind (arith, nat_tests); next = cc }

other_back : (before after : Before) (wrong : Option BadWhy)
    → other_admitted before wrong ≡ Ok after → IsOther before after wrong
unfolding other_admitted
other_back before after wrong h = other_cases (nat_lt before.nodes 2) before after wrong refl h

record IsFirst (before after : Before) : Type 0 where
  early : before.begun ≡ false
  room : before.nodes < 8
  next : after ≡ record { nodes = before.nodes + 1; begun = before.begun }

node_cases : (begun full : Bool) (before after : Before) → begun ≡ before.begun → full ≡ nat_le 8 before.nodes
    → cond (begun || full) (Err Nodes) (Ok (record before { nodes = before.nodes + 1 })) ≡ Ok after
    → IsFirst before after
node_cases true full before after e f h = absurd (cc)
node_cases false true before after e f h = absurd (cc)
node_cases false false before after e f h = record { early = sym e; room = grind (arith, nat_tests); next = cc }

node_back : (before after : Before) → node_admitted before ≡ Ok after → IsFirst before after
unfolding node_admitted
node_back before after h = node_cases before.begun (nat_le 8 before.nodes) before after refl refl h

-- what a command that may come here is, and what then stands before the next line
admitted_back : (before after : Before) (command : Command) → admitted before command ≡ Ok after
    → (IsNode command × IsFirst before after)
    ⊎ (IsAmong before.nodes command × (2 ≤ before.nodes)
    × (after ≡ record { nodes = before.nodes; begun = true }))
unfolding admitted misnamed
admitted_back before after (Node ring) h = inl (tt, node_back before after h)
admitted_back before after (Pair a b credits) h = let o = other_back before after _ h in inr (both_below a b before.nodes o.right, o.enough, o.next)
admitted_back before after (Connect a b credits) h = let o = other_back before after _ h in inr (both_below a b before.nodes o.right, o.enough, o.next)
admitted_back before after (Disconnect node session) h = let o = other_back before after _ h in inr (below node before.nodes o.right, o.enough, o.next)
admitted_back before after (Rate node session rate) h = let o = other_back before after _ h in inr (below node before.nodes o.right, o.enough, o.next)
admitted_back before after (Call node session req_type ask room) h = let o = other_back before after _ h in inr (below node before.nodes o.right, o.enough, o.next)
admitted_back before after (Poll node) h = let o = other_back before after _ h in inr (below node before.nodes o.right, o.enough, o.next)
admitted_back before after (Arrive copy) h = let o = other_back before after _ h in inr (tt, o.enough, o.next)
admitted_back before after (Lose copy) h = let o = other_back before after _ h in inr (tt, o.enough, o.next)
admitted_back before after (Repeat copy) h = let o = other_back before after _ h in inr (tt, o.enough, o.next)
admitted_back before after (Tick by) h = let o = other_back before after _ h in inr (tt, o.enough, o.next)
admitted_back before after (Work node job) h = let o = other_back before after _ h in inr (below node before.nodes o.right, o.enough, o.next)
admitted_back before after (Settle rounds) h = let o = other_back before after _ h in inr (tt, o.enough, o.next)
admitted_back before after (Restart node) h = let o = other_back before after _ h in inr (below node before.nodes o.right, o.enough, o.next)

-- a line, read backwards

put_back : (front : List Line) (said : Result (List Line) BadScript) (found : List Line)
    → put_before front said ≡ Ok found
    → (rest : List Line) × (said ≡ Ok rest) × (found ≡ front ++ rest)
put_back front (Ok rest) found h = (rest, refl, cc)
put_back front (Err bad) found h = absurd (cc)

-- the line held a command
record IsTaken (number : ℕ) (got : Result (Command × Before) BadWhy)
    (next : Before → Result (List Line) BadScript) (found : List Line) : Type 0 where
  command : Command
  after : Before
  rest : List Line
  read : got ≡ Ok (command, after)
  onward : next after ≡ Ok rest
  whole : found ≡ record { number = number; command = command } ∷ rest

line_cases : (many over : Bool) (number : ℕ) (got : Result (Command × Before) BadWhy)
    (skipped : Result (List Line) BadScript) (next : Before → Result (List Line) BadScript)
    (found : List Line)
    → cond many (bad_at number Lines) (cond over skipped (with_line number got next)) ≡ Ok found
    → (many ≡ false) × ((skipped ≡ Ok found) ⊎ IsTaken number got next found)
line_cases true over number got skipped next found h = absurd (cc)
line_cases false true number got skipped next found h = (refl, inl h)
line_cases false false number (Err why) skipped next found h = absurd (cc)
line_cases false false number (Ok (command, after)) skipped next found h =
    let (rest, onward, whole) = put_back (record { number = number; command = command } ∷ []) (next after) found h in (
      refl,
      inr (record {
        command = command;
        after = after;
        rest = rest;
        read = refl;
        onward = onward;
        whole = whole;
      }),
    )

line_back : (number : ℕ) (before : Before) (line : List ℕ) (lines : List (List ℕ))
    (found : List Line) → lines_in number before (line ∷ lines) ≡ Ok found
    → (nat_lt 100000 number ≡ false)
    × ((lines_in (number + 1) before lines ≡ Ok found)
    ⊎ IsTaken number (line_in before line) (λ after. lines_in (number + 1) after lines) found)
unfolding lines_in
line_back number before line lines found h =
    line_cases (nat_lt 100000 number) (is_passed_over line) number (line_in before line)
    (lines_in (number + 1) before lines) (λ after. lines_in (number + 1) after lines) found h

abbrev with_after : Command → Before → Result (Command × Before) BadWhy
with_after command after = Ok (command, after)

pair_back : (c command : Command) (got : Result Before BadWhy) (after : Before)
    → (got >>= with_after c) ≡ Ok (command, after) → (c ≡ command) × (got ≡ Ok after)
pair_back c command (Ok a) after h =
    let left : Command × Before = (c, a) in
    let right : Command × Before = (command, after) in
    let e : left ≡ right = cc in
    (ap (λ p. p.0) e, ap (λ p. Ok p.1) e)
pair_back c command (Err why) after h = absurd (cc)

command_back : (got : Result Command BadWhy) (before after : Before) (command : Command)
    → (got >>= λ c. admitted before c >>= with_after c) ≡ Ok (command, after)
    → admitted before command ≡ Ok after
command_back (Ok c) before after command h =
    let (same, admits) = pair_back c command (admitted before c) after h in
    ap (admitted before) (sym same) ∙ admits
command_back (Err why) before after command h = absurd (cc)

line_in_back : (before after : Before) (line : List ℕ) (command : Command)
    → line_in before line ≡ Ok (command, after) → admitted before command ≡ Ok after
unfolding line_in
line_in_back before after line command h = command_back (command_in (words_of line)) before after command h

end_cases : (few : Bool) (number nodes : ℕ) (found : List Line) → few ≡ nat_lt nodes 2
    → cond few (bad_at number Nodes) (Ok []) ≡ Ok found → (2 ≤ nodes) × (found ≡ [])
end_cases true number nodes found e h = absurd (cc)
end_cases false number nodes found e h = (grind (arith, nat_tests), cc)

end_back : (number : ℕ) (before : Before) (found : List Line) → lines_in number before [] ≡ Ok found
    → (2 ≤ before.nodes) × (found ≡ [])
unfolding lines_in
end_back number before found h = end_cases (nat_lt before.nodes 2) number before.nodes found refl h

-- the numbers rise

rising_from_less : (least most : ℕ) (lines : List Line) → least ≤ most → IsRising most lines → IsRising least lines
rising_from_less least most [] h rising = tt
rising_from_less least most (line ∷ lines) h rising = (omega arith, rising.1, rising.2)

in_count : (number : ℕ) → nat_lt 100000 number ≡ false → number ≤ 100000
in_count number h = grind (arith, nat_tests)

rising_of : (number : ℕ) (before : Before) (lines : List (List ℕ)) (found : List Line)
    → lines_in number before lines ≡ Ok found → IsRising number found
rising_of number before [] found h = subst (λ f. IsRising number f) (sym (end_back number before found h).1) tt
rising_of number before (line ∷ lines) found h =
    let (few, which) = line_back number before line lines found h in
    elim which [
      | inl passed ↦ rising_from_less number (number + 1) found (omega arith)
          (rising_of (number + 1) before lines found passed)
      | inr t ↦ subst (λ f. IsRising number f) (sym t.whole)
          (omega arith, in_count number few, rising_of (number + 1) t.after lines t.rest t.onward)
    ]

-- the commands after the first that is no node line

clash : {b : Bool} → b ≡ false → b ≡ true → ⊥
clash f t = cc

none : (P : Line → Type 0) → All P []
none P = λ k d l. absurd (omega arith)

others_of : (number : ℕ) (before : Before) (lines : List (List ℕ)) (found : List Line)
    → lines_in number before lines ≡ Ok found → before.begun ≡ true
    → All (λ line. IsAmong before.nodes line.command) found
others_of number before [] found h begun =
    subst (λ f. All (λ line. IsAmong before.nodes line.command) f)
    (sym (end_back number before found h).1) (none _)
others_of number before (line ∷ lines) found h begun =
    let (few, which) = line_back number before line lines found h in
    elim which [
      | inl passed ↦ others_of (number + 1) before lines found passed begun
      | inr t ↦ elim (admitted_back before t.after t.command (line_in_back before t.after line t.command t.read)) [
        | inl (node, first) ↦ absurd (clash first.early begun)
        | inr (among, enough, next) ↦
            subst (λ f. All (λ l. IsAmong before.nodes l.command) f) (sym t.whole)
            (All-cons (λ l. IsAmong before.nodes l.command) _ t.rest among
            (subst (λ n. All (λ l. IsAmong n l.command) t.rest) (ap (λ b. b.nodes) next)
            (others_of (number + 1) t.after lines t.rest t.onward (ap (λ b. b.begun) next))))
      ]
    ]

-- `declared` nodes were declared before these lines
record IsSplit (declared : ℕ) (lines : List Line) : Type 0 where
  nodes : List Line
  others : List Line
  parts : lines ≡ nodes ++ others
  at_least_two : 2 ≤ declared + length nodes
  at_most_eight : declared + length nodes ≤ 8
  all_nodes : All (λ line. IsNode line.command) nodes
  all_others : All (λ line. IsAmong (declared + length nodes) line.command) others

-- no node line, and other commands
no_node : (declared : ℕ) (lines : List Line) → 2 ≤ declared → declared ≤ 8
    → All (λ line. IsAmong declared line.command) lines → IsSplit declared lines
no_node declared lines enough few all = record {
  nodes = [];
  others = lines;
  parts = refl;
  at_least_two = omega arith;
  at_most_eight = omega arith;
  all_nodes = none _;
  all_others = subst (λ n. All (λ line. IsAmong n line.command) lines) (sym (add-zero declared)) all;
}

-- one node line more in front
node_more : (declared next : ℕ) (line : Line) (lines : List Line) → next ≡ declared + 1
    → IsNode line.command → IsSplit next lines → IsSplit declared (line ∷ lines)
node_more declared next line lines e node split = record {
  nodes = line ∷ split.nodes;
  others = split.others;
  parts = ap (λ l. line ∷ l) split.parts;
  at_least_two = omega (arith, split.at_least_two);
  at_most_eight = omega (arith, split.at_most_eight);
  all_nodes = All-cons (λ l. IsNode l.command) line split.nodes node split.all_nodes;
  all_others =
      let same : next + length split.nodes ≡ declared + length (line ∷ split.nodes) = omega arith in
      subst (λ n. All (λ l. IsAmong n l.command) split.others) same split.all_others;
}

split_of : (number : ℕ) (before : Before) (lines : List (List ℕ)) (found : List Line)
    → lines_in number before lines ≡ Ok found → before.begun ≡ false → before.nodes ≤ 8
    → IsSplit before.nodes found
split_of number before [] found h begun few =
    let (enough, ended) = end_back number before found h in
    subst (IsSplit before.nodes) (sym ended) (no_node before.nodes [] enough few (none _))
split_of number before (line ∷ lines) found h begun few =
    let (within, which) = line_back number before line lines found h in
    elim which [
      | inl passed ↦ split_of (number + 1) before lines found passed begun few
      | inr t ↦ subst (IsSplit before.nodes) (sym t.whole)
          (elim (admitted_back before t.after t.command (line_in_back before t.after line t.command t.read)) [
            | inl (node, first) ↦
                node_more before.nodes t.after.nodes _ t.rest (ap (λ b. b.nodes) first.next) node
                (split_of (number + 1) t.after lines t.rest t.onward
                (ap (λ b. b.begun) first.next ∙ first.early)
                (omega (arith, ap (λ b. b.nodes) first.next, first.room)))
            | inr (among, enough, next) ↦
                no_node before.nodes _ enough few
                (All-cons (λ l. IsAmong before.nodes l.command) _ t.rest among
                (subst (λ n. All (λ l. IsAmong n l.command) t.rest) (ap (λ b. b.nodes) next)
                (others_of (number + 1) t.after lines t.rest t.onward
                (ap (λ b. b.begun) next))))
          ])
    ]

-- a text that is read

head_sound : (known : Bool) (lines : List (List ℕ)) (found : List Line)
    → cond known (lines_in 2 (record { nodes = 0; begun = false }) lines) (bad_at 1 First)
    ≡ Ok found → IsRising 2 found × IsSplit 0 found
head_sound true lines found h = (
  rising_of 2 (record { nodes = 0; begun = false }) lines found h,
  split_of 2 (record { nodes = 0; begun = false }) lines found h refl (omega arith),
)
head_sound false lines found h = absurd (cc)

text_sound : (lines : List (List ℕ)) (found : List Line) → text_in lines ≡ Ok found
    → IsRising 2 found × IsSplit 0 found
unfolding text_in
text_sound [] found h = absurd (cc)
text_sound (head ∷ lines) found h = head_sound (is_word head (codes "erpc-sim 1")) lines found h

size_sound : (long : Bool) (lines : List (List ℕ)) (found : List Line)
    → cond long (bad_at 0 TooLong) (text_in lines) ≡ Ok found → IsRising 2 found × IsSplit 0 found
size_sound true lines found h = absurd (cc)
size_sound false lines found h = text_sound lines found h

-- what the grammar accepts, with its numbers in range, is a script
pub script_sound : (text : List ℕ) (found : List Line) → script_of text ≡ Ok found
    → All (λ line. IsInRange line.command) found → IsScript found
unfolding script_of
script_sound text found h ranges =
    let (rising, split) = size_sound (nat_lt 16777216 (length text)) (lines_of text) found h in
    record {
      rising = rising;
      ranges = ranges;
      nodes = split.nodes;
      others = split.others;
      parts = split.parts;
      at_least_two = omega (arith, split.at_least_two);
      at_most_eight = omega (arith, split.at_most_eight);
      all_nodes = split.all_nodes;
      all_others =
          let same : 0 + length split.nodes ≡ length split.nodes = omega arith in
          subst (λ n. All (λ l. IsAmong n l.command) split.others) same split.all_others;
    }
