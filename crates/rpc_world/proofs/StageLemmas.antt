-- What was performed, one thing after another, and rounds.
use Rattle.std.proofs.Common.{◌≡◌, ℕ, suc, ◌+◌, ◌-◌, ◌<◌, ◌≤◌, Bool, true, false, List, [], ◌++◌}
use Rattle.std.proofs.Common.{length, refl, subst, sym, ap, ◌∙◌, append_assoc, append-nil, length-append}
use Rattle.std.proofs.Common.{take, drop, arith}
use Rattle.std.proofs.lemmas.List.{take_all}
use Rattle.std.proofs.Math.Seq.{drop-append_seam}
use Rattle.std.specs.List.{list_all}
use Rattle.rpc_base.specs.declared.fact.Fact.{Fact}
use Rattle.network_model.specs.declared.stage.Stage.{Stage}
use Rattle.sim_script.specs.FollowsScript.{Carries, Joins, Round, Settles, Times, Unless, WorksAndPolls, is_polled}
use Rattle.rpc_world.specs.Answered.{Plainly, Play, stage_of, totals_of}
use Rattle.rpc_world.specs.Performed.{Performed, MakesRound}
use Rattle.rpc_world.specs.Before.{AllPlay, IsNumbered}
use Rattle.rpc_world.proofs.PlainLemmas.{plainly-append, plainly-none}
use Rattle.rpc_world.proofs.StaysLemmas.{ends-long, performed-numbered, stays-round}

-- nothing yet
pub performed-none : (P : Stage → List Fact → Stage → Type 0) (s : Play) (f : List Fact)
    → P (stage_of s) [] (stage_of s) → Performed P s s f f
performed-none P s f p =
    record {
      group = [];
      grew = sym (append-nil f);
      does = p;
      plain = plainly-none (totals_of s);
      keeps = λ a. a;
    }

-- P, and then Q
pub performed-joins : (P Q : Stage → List Fact → Stage → Type 0) (s t u : Play) (f g h : List Fact)
    → Performed P s t f g → Performed Q t u g h → Performed (Joins P Q) s u f h
performed-joins P Q s t u f g h p q = record {
  group = p.group ++ q.group;
  grew = q.grew ∙ rw p.grew (append_assoc f p.group q.group);
  does = record {
    between = stage_of t;
    group = p.group;
    rest = q.group;
    joined = refl;
    does = p.does;
    follows = q.does;
  };
  plain = plainly-append p.group q.group (totals_of s) (totals_of t) (totals_of u) p.plain q.plain;
  keeps = λ a. q.keeps (p.keeps a);
}

-- the copies in flight are carried, and then the nodes worked and polled
pub round-by : (s t u : Play) (f g h : List Fact)
    → Performed (Times (Carries 0) (length s.flight)) s t f g
    → Performed (WorksAndPolls (length t.ends)) t u g h → Performed Round s u f h
round-by s t u f g h p q = record {
  group = p.group ++ q.group;
  grew = q.grew ∙ rw p.grew (append_assoc f p.group q.group);
  does = record {
    between = stage_of t;
    group = p.group;
    rest = q.group;
    joined = refl;
    does = p.does;
    follows = subst (λ (n : ℕ). WorksAndPolls n (stage_of t) q.group (stage_of u)) (sym (ends-long t)) q.does;
  };
  plain = plainly-append p.group q.group (totals_of s) (totals_of t) (totals_of u) p.plain q.plain;
  keeps = λ a. q.keeps (p.keeps a);
}

-- i rounds of n were made: what the others do completes the n
pub record Goes (n i : ℕ) (s t : Play) (f g : List Fact) : Type 0 where
  pub group : List Fact
  pub grew : g ≡ f ++ group
  pub rest : (k : ℕ) (x : List Fact) (u : Stage) → i + k ≡ n → Settles k (stage_of t) x u
      → Settles n (stage_of s) (group ++ x) u
  pub plain : Plainly group (totals_of s) (totals_of t)
  pub keeps : AllPlay s → AllPlay t
  pub numbered : IsNumbered s → IsNumbered t

pub goes-none : (n : ℕ) (s : Play) (f : List Fact) → Goes n 0 s s f f
goes-none n s f = record {
  group = [];
  grew = sym (append-nil f);
  rest = λ k x u e d. let same : k ≡ n = omega (arith, e) in rw (← same) d;
  plain = plainly-none (totals_of s);
  keeps = λ a. a;
  numbered = λ m. m;
}

more-round : (k : ℕ) (quiet : Bool) (t u v : Stage) (x y : List Fact) → Round t x u
    → quiet ≡ list_all (λ f. is_polled f.event) x → Unless quiet (Settles k) u y v
    → Settles (suc k) t (x ++ y) v
more-round k quiet t u v x y r e d = record {
  between = u;
  round = x;
  rest = y;
  joined = refl;
  makes = r;
  goes_on = rw (← e) d;
}

-- one round more, after which there may be others
pub goes-more : (n i : ℕ) (quiet : Bool) (s t u : Play) (f g h : List Fact) → Goes n i s t f g
    → quiet ≡ false → MakesRound quiet t u g h → Goes n (i + 1) s u f h
goes-more n i quiet s t u f g h p loud m = record {
  group = p.group ++ m.made.group;
  grew = m.made.grew ∙ rw p.grew (append_assoc f p.group m.made.group);
  rest = λ k x v e d.
      let more : i + suc k ≡ n = omega (arith, e) in
      rw (append_assoc p.group m.made.group x)
      (p.rest (suc k) (m.made.group ++ x) v more
      (more-round k false (stage_of t) (stage_of u) v m.made.group x m.made.does (sym loud ∙ m.quiet) d));
  plain = plainly-append p.group m.made.group (totals_of s) (totals_of t) (totals_of u) p.plain m.made.plain;
  keeps = λ a. m.made.keeps (p.keeps a);
  numbered = λ first. performed-numbered Round stays-round t u g h m.made (p.numbered first);
}

-- a round in which there was nothing but polls is the last
pub settles-quiet : (n i : ℕ) (quiet : Bool) (s t u : Play) (f g h : List Fact) → i < n
    → Goes n i s t f g → quiet ≡ true → MakesRound quiet t u g h → Performed (Settles n) s u f h
settles-quiet n i quiet s t u f g h within p still m =
    let k = n - (i + 1) in
    let more : i + suc k ≡ n = omega (arith, within) in
    record {
      group = p.group ++ (m.made.group ++ []);
      grew = m.made.grew ∙ rw (p.grew, append-nil m.made.group) (append_assoc f p.group m.made.group);
      does = p.rest (suc k) (m.made.group ++ []) (stage_of u) more
          (more-round k true (stage_of t) (stage_of u) (stage_of u) m.made.group [] m.made.does
          (sym still ∙ m.quiet) (refl, refl));
      plain = plainly-append p.group (m.made.group ++ []) (totals_of s) (totals_of t) (totals_of u) p.plain
          (rw (append-nil m.made.group) m.made.plain);
      keeps = λ a. m.made.keeps (p.keeps a);
    }

-- all n were made
pub settles-all : (n i : ℕ) (s t : Play) (f g : List Fact) → i ≡ n → Goes n i s t f g → Performed (Settles n) s t f g
settles-all n i s t f g e p =
    let over : i + 0 ≡ n = omega (arith, e) in
    record {
      group = p.group ++ [];
      grew = p.grew ∙ rw (append-nil p.group) refl;
      does = p.rest 0 [] (stage_of t) over (refl, refl);
      plain = rw (append-nil p.group) p.plain;
      keeps = p.keeps;
    }

pub back-part : (f x h : List Fact) → h ≡ f ++ x → take (length h - length f) (drop (length f) h) ≡ x
back-part f x h e =
    let more : length h ≡ length f + length x = ap length e ∙ length-append f x in
    let long : length x ≤ length h - length f = omega (arith, more) in
    ap (λ (y : List Fact). take (length h - length f) y)
    (ap (drop (length f)) e ∙ drop-append_seam f x) ∙ take_all _ _ long

-- a round, and whether it was quiet, from the facts since it began
pub makes-round : (quiet : Bool) (s t u : Play) (f g h all : List Fact) (n : ℕ)
    → Performed (Times (Carries 0) (length s.flight)) s t f g
    → Performed (WorksAndPolls (length t.ends)) t u g h → n ≡ length f → all ≡ h
    → quiet ≡ list_all (λ f. is_polled f.event) (take (length all - n) (drop n all))
    → MakesRound quiet s u f h
makes-round quiet s t u f g h all n p q is_n is_all is =
    let made = round-by s t u f g h p q in
    let back : take (length all - n) (drop n all) ≡ made.group =
    rw (is_n, is_all) (back-part f made.group h made.grew) in
    record { made = made; quiet = is ∙ ap (list_all (λ (f : Fact). is_polled f.event)) back }
