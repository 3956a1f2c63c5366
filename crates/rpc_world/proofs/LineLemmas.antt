-- The lines of a script one by one: each names nodes that are there, and the clock stays small.
use Rattle.std.proofs.Common.{◌≡◌, ◌<◌, ◌≤◌, ◌+◌, ◌-◌, ◌*◌, ◌^◌, ◌⊎◌, inl, inr, ℕ, zero, suc}
use Rattle.std.proofs.Common.{List, [], ◌∷◌, get_or, length}
use Rattle.std.proofs.Common.{refl, sym, ap, subst, ◌∙◌, arith, length-append}
use Rattle.std.proofs.lemmas.List.{get_or_append_left, get_or-append_right}
use Rattle.rpc_base.specs.declared.fact.Fact.{Fact}
use Rattle.rpc_world.specs.Answered.{Play, stage_of, told_end}
use Rattle.rpc_world.specs.Performed.{Performed}
use Rattle.rpc_world.specs.Before.{AllCanRestart, IsNumbered, Names}
use Rattle.rpc_world.proofs.AgeLemmas.{AllAged, does-age}
use Rattle.rpc_world.proofs.PairLemmas.{node-of}
use Rattle.rpc_world.proofs.StaysLemmas.{does-leaves, does-long, does-numbered, made, passed}
use Rattle.script_grammar.specs.declared.line.Command.{Command}
use Rattle.script_grammar.specs.declared.line.Command.TheVariants.{Node, Tick}
use Rattle.script_grammar.specs.declared.line.Line.{Line}
use Rattle.script_grammar.specs.declared.command.TheConstants.{MOST_TICK}
use Rattle.script_grammar.specs.Conditions.{IsAmong, IsInRange, IsNode, IsRising, IsScript}
use Rattle.sim_script.specs.FollowsScript.{Does}

-- a script has at most 100,000 lines
rising-few : (least : ℕ) (lines : List Line) → IsRising least lines → least ≤ 100001 → length lines + least ≤ 100001
rising-few least [] r h = omega (arith, h)
rising-few least (line ∷ lines) r h =
    let more = rising-few (line.number + 1) lines r.2 (omega (arith, r.1)) in
    omega (arith, more, r.0)

-- the nodes that are there once i lines of a script of k node lines ran
abbrev pub MadeBy : (k i n : ℕ) → Type 0
MadeBy k i n = (i ≤ k → n ≡ i) × (k ≤ i → n ≡ k)

names-node : (n : ℕ) (c : Command) → IsNode c → n < 8 → Names n c
names-node n (Node ring) h less = less
names-node n _ h less = absurd h

names-among : (n : ℕ) (c : Command) → IsAmong n c → Names n c
names-among n (Node ring) h = absurd h
names-among n _ h = h

made-node : (c : Command) → IsNode c → made c ≡ 1
made-node (Node ring) h = refl
made-node _ h = absurd h

made-among : (n : ℕ) (c : Command) → IsAmong n c → made c ≡ 0
made-among n (Node ring) h = absurd h
made-among n _ h = refl

passed-most : (c : Command) → IsInRange c → passed c ≤ MOST_TICK
passed-most (Tick by) h = h
passed-most _ h = omega arith

-- a line among the first k is a node's, and each other names nodes that are there
record LineIs (k i : ℕ) (c : Command) : Type 0 where
  node : i < k → IsNode c
  other : k ≤ i → IsAmong k c

line-is : (lines : List Line) (is : IsScript lines) (i : ℕ) (d : Line) → i < length lines
    → LineIs (length is.nodes) i (get_or lines i d).command
line-is lines is i d within =
    let k = length is.nodes in
    let long : length lines ≡ k + length is.others = ap length is.parts ∙ length-append is.nodes is.others in
    record {
      node = λ less.
          let same : get_or lines i d ≡ get_or is.nodes i d =
          ap (λ (ls : List Line). get_or ls i d) is.parts
          ∙ get_or_append_left is.nodes is.others d i less in
          subst (λ (line : Line). IsNode line.command) (sym same) (is.all_nodes i d less);
      other = λ more.
          let same : get_or lines i d ≡ get_or is.others (i - k) d =
          ap (λ (ls : List Line). get_or ls i d) is.parts
          ∙ get_or-append_right is.nodes is.others k i d refl more in
          subst (λ (line : Line). IsAmong k line.command) (sym same)
          (is.all_others (i - k) d (omega (arith, long, within, more)));
    }

names-by : (k i n : ℕ) (c : Command) → k ≤ 8 → LineIs k i c → MadeBy k i n → (i < k) ⊎ (k ≤ i) → Names n c
names-by k i n c few l m (inl less) =
    let same = m.0 (omega (arith, less)) in
    names-node n c (l.node less) (omega (arith, same, less, few))
names-by k i n c few l m (inr more) =
    let same : n ≡ k = m.1 more in
    names-among n c (subst (λ (j : ℕ). IsAmong j c) (sym same) (l.other more))

made-by : (k i n m : ℕ) (c : Command) → LineIs k i c → MadeBy k i n → m ≡ n + made c → (i < k)
    ⊎ (k ≤ i) → MadeBy k (i + 1) m
made-by k i n m c l h is (inl less) =
    let same = h.0 (omega (arith, less)) in
    let one = made-node c (l.node less) in
    (λ low. omega (arith, same, one, is), λ high. omega (arith, same, one, is, less, high))
made-by k i n m c l h is (inr more) =
    let same = h.1 more in
    let none = made-among k c (l.other more) in
    (λ low. absurd (omega (arith, low, more)), λ high. omega (arith, same, none, is))

order : (i k : ℕ) → (i < k) ⊎ (k ≤ i)
order i zero = inr (omega arith)
order zero (suc k) = inl (omega arith)
order (suc i) (suc k) =
    elim (order i k) as (λ o. (suc i < suc k) ⊎ (suc k ≤ suc i))
    [ inl h ↦ inl (omega (arith, h)) | inr h ↦ inr (omega (arith, h)) ]

-- how the world stands once i of the lines ran
pub record Stands (lines : List Line) (i : ℕ) (s : Play) : Type 0 where
  pub numbered : IsNumbered s
  pub there : (is : IsScript lines) → MadeBy (length is.nodes) i (length s.ends)
  pub clock : s.clock ≤ i * MOST_TICK
  pub aged : AllAged (i + 1) (stage_of s)

pub stands-first : (lines : List Line)
    → Stands lines 0 (record { ends = []; flight = []; worked = []; clock = 0 })
stands-first lines = record {
  numbered = record {
    playing = record { each = λ n e h. cc; theirs = tt; peers = λ n e h. cc; copies = tt };
    few = omega arith;
  };
  there = λ is. (λ low. refl, λ high. omega (arith, high));
  clock = omega arith;
  aged = λ j z is. cc;
}

pub stands-names : (lines : List Line) (is : IsScript lines) (i : ℕ) (d : Line) (s : Play)
    → i < length lines → Stands lines i s → Names (length s.ends) (get_or lines i d).command
stands-names lines is i d s within h =
    names-by (length is.nodes) i (length s.ends)
    (get_or lines i d).command is.at_most_eight (line-is lines is i d within) (h.there is)
    (order i (length is.nodes))

pub stands-next : (lines : List Line) (is : IsScript lines) (i : ℕ) (d : Line) (s t : Play)
    (f g : List Fact) → i < length lines → Stands lines i s
    → Performed (Does (get_or lines i d).command) s t f g → Stands lines (i + 1) t
stands-next lines is i d s t f g within h p =
    let c = (get_or lines i d).command in
    let left = does-leaves c (stage_of s) p.group (stage_of t) p.does in
    let most = passed-most c (is.ranges i d within) in
    record {
      numbered = does-numbered c s t f g (stands-names lines is i d s within h) p h.numbered;
      there = λ other. made-by (length other.nodes) i (length s.ends)
          (length t.ends) c (line-is lines other i d within)
          (h.there other) (does-long c s t f g p) (order i (length other.nodes));
      clock = omega (arith, left.clock, most, h.clock);
      aged = does-age c (length s.ends) (i + 1) (stage_of s) p.group (stage_of t)
          (is.ranges i d within) (stands-names lines is i d s within h) (omega arith) p.does h.aged;
    }

-- the clock has room for one more tick
pub stands-clock : (lines : List Line) (is : IsScript lines) (i : ℕ) (s : Play) → i < length lines
    → Stands lines i s → s.clock + MOST_TICK < 2 ^ 64
stands-clock lines is i s within h =
    let few = rising-few 2 lines is.rising (omega arith) in
    omega (arith, h.clock, few, within)

-- a node is restarted by each line once at most, so there are lives for all of them
stands-anew : (lines : List Line) (is : IsScript lines) (i : ℕ) (s : Play) → i < length lines
    → Stands lines i s → AllCanRestart s
stands-anew lines is i s within h n e at =
    let was = h.aged n (told_end e) (node-of s n e at) in
    let early : e.timed.lists.life ≤ i + 1 = was.early in
    let few = rising-few 2 lines is.rising (omega arith) in
    record { life = (omega arith, omega (arith, early, few, within)); limits = was.limits }

-- what a command of a script has when its turn comes
pub record Ready (s : Play) (c : Command) : Type 0 where
  pub ranges : IsInRange c
  pub names : Names (length s.ends) c
  pub clock : s.clock + MOST_TICK < 2 ^ 64
  pub anew : AllCanRestart s

ready-at : (lines : List Line) (is : IsScript lines) (i : ℕ) (d : Line) (s : Play)
    → i < length lines → Stands lines i s → Ready s (get_or lines i d).command
ready-at lines is i d s within h = record {
  ranges = is.ranges i d within;
  names = stands-names lines is i d s within h;
  clock = stands-clock lines is i s within h;
  anew = stands-anew lines is i s within h;
}

pub ready : (script lines : List Line) (i : ℕ) (line : Line) (s : Play) → lines ≡ script
    → IsScript script → i < length lines → line ≡ get_or lines i line
    → Stands lines i s → Ready s line.command
ready script lines i line s same is within here h =
    let script_is : IsScript lines = subst (λ (ls : List Line). IsScript ls) (sym same) is in
    subst (λ (x : Line). Ready s x.command) (sym here) (ready-at lines script_is i line s within h)

pub stands-after : (script lines : List Line) (i : ℕ) (line : Line) (s t : Play) (f g : List Fact)
    → lines ≡ script → IsScript script → i < length lines → line ≡ get_or lines i line
    → Stands lines i s → Performed (Does line.command) s t f g → Stands lines (i + 1) t
stands-after script lines i line s t f g same is within here h p =
    let script_is : IsScript lines = subst (λ (ls : List Line). IsScript ls) (sym same) is in
    stands-next lines script_is i line s t f g within h
    (subst (λ (x : Line). Performed (Does x.command) s t f g) here p)
