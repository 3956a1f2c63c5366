-- A script that is being made keeps its form, and is a script.
use Rattle.std.proofs.Common.{◌≡◌, ℕ, ◌+◌, ◌≤◌, List, [], ◌∷◌, ◌++◌, length, All, refl, sym}
use Rattle.std.proofs.Common.{ap, ◌∙◌, subst, arith}
use Rattle.std.proofs.lemmas.List.{length-append, length-map, map-append}
use Rattle.std.proofs.lemmas.List.Elements.{All-append, All-cons, All-nil, All-weaker}
use Rattle.std.proofs.Math.ListN.{get_or-map}
use Rattle.script_grammar.specs.declared.line.Command.{Command}
use Rattle.script_grammar.specs.declared.line.Command.TheVariants.{Node}
use Rattle.script_grammar.specs.declared.line.Line.{Line}
use Rattle.script_grammar.specs.Conditions.{IsAmong, IsInRange, IsNode, IsRising, IsScript}
use Rattle.drill_maker.specs.Draft.{IsDraft, IsDrilled, KeepsSessions, commands_of}
use Rattle.drill_maker.specs.Drill.{nodes, numbered}

abbrev line_of : ℕ → Command → Line
line_of number command = record { number = number; command = command }

numbered-append : (n : ℕ) (cs : List Command) (c : Command)
    → numbered n (cs ++ c ∷ []) ≡ numbered n cs ++ line_of (n + length cs) c ∷ []
numbered-append n [] c = ap (λ m. line_of m c ∷ []) (omega arith)
numbered-append n (b ∷ cs) c =
    let m : n + 1 + length cs ≡ n + length (b ∷ cs) = omega arith in
    ap (λ (ls : List Line). line_of n b ∷ ls)
    (subst (λ k. numbered (n + 1) (cs ++ c ∷ []) ≡ numbered (n + 1) cs ++ line_of k c ∷ []) m
    (numbered-append (n + 1) cs c))

commands-numbered : (n : ℕ) (cs : List Command) → commands_of (numbered n cs) ≡ cs
commands-numbered n [] = refl
commands-numbered n (c ∷ cs) = ap (λ (ds : List Command). c ∷ ds) (commands-numbered (n + 1) cs)

-- what holds of each command holds on each line
all_on_lines : (P : Command → Type 0) (lines : List Line) → All P (commands_of lines)
    → All (λ line. P line.command) lines
all_on_lines P lines all k d h =
    subst P (get_or-map (λ line. line.command) lines k d)
    (all k d.command (omega (arith, length-map lines (λ line. line.command))))

rising : (n : ℕ) (cs : List Command) → n + length cs ≤ 100001 → IsRising n (numbered n cs)
rising n [] h = tt
rising n (c ∷ cs) h = (omega arith, omega arith, rising (n + 1) cs (omega arith))

-- one command more

pub draft_added : (lines : List Line) (command : Command) (n : ℕ) → IsDraft lines → n ≡ length lines + 2
    → length lines + 2 ≤ 100000 → IsDrilled command → IsDraft (lines ++ line_of n command ∷ [])
draft_added lines command n draft e room drilled =
    let new : commands_of (lines ++ line_of n command ∷ []) ≡ commands_of lines ++ command ∷ [] =
    map-append (λ line. line.command) lines (line_of n command ∷ []) in
    let same : 2 + length (commands_of lines) ≡ n = omega (arith, length-map lines (λ line. line.command)) in
    record {
      others = draft.others ++ command ∷ [];
      drilled = All-append IsDrilled draft.others (command ∷ []) draft.drilled
          (All-cons IsDrilled command [] drilled (All-nil IsDrilled));
      commands = new ∙ ap (λ (cs : List Command). cs ++ command ∷ []) draft.commands;
      numbers =
          ap (λ (ls : List Line). ls ++ line_of n command ∷ []) draft.numbers
          ∙ ap (λ k. numbered 2 (commands_of lines) ++ line_of k command ∷ []) (sym same)
          ∙ sym (numbered-append 2 (commands_of lines) command)
          ∙ ap (λ (cs : List Command). numbered 2 cs) (sym new);
      few = omega (arith, length-append lines (line_of n command ∷ []));
    }

-- a draft is a script

all_of_nodes : (P : Command → Type 0) → P (Node 256) → All P nodes
all_of_nodes P node =
    let last = All-cons P (Node 256) [] node (All-nil P) in
    All-cons P (Node 256) (Node 256 ∷ Node 256 ∷ []) node (All-cons P (Node 256) (Node 256 ∷ []) node last)

all_of_draft : (P : Command → Type 0) (lines : List Line) (draft : IsDraft lines) → P (Node 256)
    → ((c : Command) → IsDrilled c → P c) → All (λ line. P line.command) lines
all_of_draft P lines draft node each = all_on_lines P lines
    (subst (λ cs. All P cs) (sym draft.commands)
    (All-append P nodes draft.others (all_of_nodes P node)
    (All-weaker IsDrilled P each draft.others draft.drilled)))

pub draft_keeps : (lines : List Line) → IsDraft lines → All (λ line. KeepsSessions line.command) lines
draft_keeps lines draft = all_of_draft KeepsSessions lines draft tt (λ c d. d.keeps)

pub draft_script : (lines : List Line) → IsDraft lines → IsScript lines
draft_script lines draft =
    let whole : lines ≡ numbered 2 (nodes ++ draft.others) =
    draft.numbers ∙ ap (λ (cs : List Command). numbered 2 cs) draft.commands in
    let count : length lines ≡ length (nodes ++ draft.others) =
    sym (length-map lines (λ line. line.command)) ∙ ap (λ (cs : List Command). length cs) draft.commands in
    record {
      rising = subst (IsRising 2) (sym whole) (rising 2 (nodes ++ draft.others) (omega (arith, draft.few)));
      ranges = all_of_draft IsInRange lines draft (omega arith, omega arith) (λ c d. d.range);
      nodes = numbered 2 nodes;
      others = numbered 5 draft.others;
      parts = whole;
      at_least_two = omega arith;
      at_most_eight = omega arith;
      all_nodes = all_on_lines IsNode (numbered 2 nodes) (all_of_nodes IsNode tt);
      all_others = all_on_lines (IsAmong 3) (numbered 5 draft.others)
          (subst (λ cs. All (IsAmong 3) cs) (sym (commands-numbered 5 draft.others))
          (All-weaker IsDrilled (IsAmong 3) (λ c d. d.among) draft.others draft.drilled));
    }
