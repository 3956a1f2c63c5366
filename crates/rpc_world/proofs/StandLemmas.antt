-- The endpoints that a script leaves stand for their nodes' facts.
use Rattle.std.proofs.Common.{◌≡◌, ◌≢◌, ℕ, zero, suc, ◌<◌, Option, Some, None, List, [], ◌∷◌, get_or}
use Rattle.std.proofs.Common.{◌+◌, ◌++◌, append_assoc, length, refl, sym, ap, ◌∙◌, subst, arith, inl, inr}
use Rattle.std.specs.Prelude.{map, option_map, slice_get}
use Rattle.std.proofs.lemmas.Option.{slice_get-map}
use Rattle.rpc_base.specs.declared.fact.Fact.{Fact}
use Rattle.rpc_base.specs.declared.event.Event.TheVariants.{Made, Restarted}
use Rattle.rpc_base.specs.declared.limits.Limits.{Limits}
use Rattle.rpc_laws.proofs.AnswerLemmas.{served-append}
use Rattle.rpc_laws.specs.declared.tables.Lists.{Lists}
use Rattle.rpc_laws.specs.declared.tables.Timed.{Timed}
use Rattle.rpc_laws.specs.Facts.{plain}
use Rattle.rpc_laws.specs.Lives.{first_life}
use Rattle.rpc_laws.specs.NodeLists.{after, new_lists}
use Rattle.rpc_laws.specs.Service.{Serving, plain_serving, served_after_all}
use Rattle.rpc_laws.specs.UsualLimits.{with_ring}
use Rattle.rpc_outside.specs.PlainAnswer.{plain_mode}
use Rattle.rpc_outside.specs.PlainStands.{PlainStands}
use Rattle.rpc_outside.specs.Served.{Served}
use Rattle.node_laws.proofs.RunLaws.{run_leads}
use Rattle.node_laws.proofs.Allowed.{Leads}
use Rattle.node_laws.specs.NodeRun.{LifeRun, NodeRun, lives_on, restarts}
use Rattle.rpc_world.specs.Answered.{End, Plainly, Play, stage_of, told_end, totals_of}
use Rattle.rpc_world.specs.Before.{AllPlay}
use Rattle.rpc_world.specs.Standing.{AllStand, AreOver, StandsAt, StandsIf}
use Rattle.world_laws.specs.NodeFacts.{IsRun, RunAt, RunsOf, facts_of}

-- the total of a node's service
total-is : (ends : List End) (n : ℕ) (e : End) → slice_get ends n ≡ Some e
    → get_or (map (λ (x : End). x.service) ends) n 0 ≡ e.service
total-is [] n e at = cc
total-is (x ∷ ends) zero e at = let same : x ≡ e = cc in ap (λ (y : End). y.service) same
total-is (x ∷ ends) (suc n) e at = total-is ends n e at

-- a life has its number at its end
life-stays : (s : Lists) (g : List Fact) (t : Lists) → Leads s g t → t.life ≡ s.life
life-stays s [] t l = ap (λ (u : Lists). u.life) l
life-stays s (f ∷ g) t l = life-stays (after l.0 s f) g t l.2

-- the last life of a run, and those before it
record Parts (v : Serving) (me : ℕ) (limits : Limits) (first : ℕ) (g : List Fact) (t : Timed) : Type 0 where
  older : List Fact
  last : List Fact
  parted : g ≡ older ++ last
  over : AreOver me first t.lists.life older
  run : LifeRun v me t.lists.life limits last t

over-next : (me life now : ℕ) (part older : List Fact) → AreOver me (life + 1) now older
    → AreOver me life now (part ++ plain me (Restarted (life + 1)) ∷ older)
over-next me life now part older (inl (none, is)) =
    inr (part, rw (none, is) refl)
over-next me life now part older (inr (before, is)) =
    let one = plain me (Restarted (life + 1)) in
    inr (
      part ++ one ∷ before,
      ap (λ (y : List Fact). part ++ one ∷ y) is
          ∙ sym (append_assoc part (one ∷ before) (plain me (Restarted now) ∷ [])),
    )

last-part : (v : Serving) (me : ℕ) (limits : Limits) (life : ℕ) (g : List Fact) (t : Timed)
    → NodeRun v me limits life g t → Parts v me limits life g t
last-part v me limits _ _ _ (lives_on life g t r) =
    let is = life-stays (new_lists me life limits) g t.lists (run_leads r) in
    record {
      older = [];
      last = g;
      parted = refl;
      over = inl (refl, is);
      run = subst (λ (k : ℕ). LifeRun v me k limits g t) (sym is) r;
    }
last-part v me limits _ _ _ (restarts life part rest s t r more) =
    let p = last-part v me limits (life + 1) rest t more in
    let one = plain me (Restarted (life + 1)) in
    record {
      older = part ++ one ∷ p.older;
      last = p.last;
      parted = ap (λ (y : List Fact). part ++ one ∷ y) p.parted
          ∙ sym (append_assoc part (one ∷ p.older) p.last);
      over = over-next me life t.lists.life part p.older p.over;
      run = p.run;
    }

-- what older lives served is over
served-last : (n first life : ℕ) (older last : List Fact) → AreOver n first life older
    → served_after_all plain_mode [] (older ++ last) ≡ served_after_all plain_mode [] last
served-last n first life older last (inl (none, is)) =
    ap (λ (y : List Fact). served_after_all plain_mode [] (y ++ last)) none
served-last n first life older last (inr (before, is)) =
    let one = plain n (Restarted life) in
    ap (λ (y : List Fact). served_after_all plain_mode [] (y ++ last)) is
    ∙ (ap (served_after_all plain_mode []) (append_assoc before (one ∷ []) last)
    ∙ served-append plain_mode [] before (one ∷ last))

module _ (h : List Fact) (end : Play) (plainly : Plainly h [] (totals_of end)) (play : AllPlay end)
    (runs : RunsOf h (stage_of end)) where
  stands-at : (n : ℕ) (e : End) → slice_get end.ends n ≡ Some e
      → IsRun n (facts_of n h) (told_end e) → StandsAt n h e
  stands-at n e at run =
      let plays = play.each n e at in
      let p = last-part plain_serving n (with_ring run.ring) first_life run.later (told_end e) run.run in
      let made : facts_of n h ≡ plain n (Made run.ring) ∷ p.older ++ p.last =
      run.made ∙ ap (λ (y : List Fact). plain n (Made run.ring) ∷ y) p.parted in
      let all : PlainStands (get_or (totals_of end) n 0)
      (served_after_all plain_mode [] (p.older ++ p.last)) =
      subst (λ (x : List Fact). PlainStands (get_or (totals_of end) n 0)
      (served_after_all plain_mode [] x)) made (plainly.serves n [] refl).1 in
      record {
        ring = run.ring;
        older = p.older;
        last = p.last;
        made = made;
        over = p.over;
        run = subst (λ (x : List Fact). NodeRun plain_serving n (with_ring run.ring) first_life x (told_end e))
            p.parted run.run;
        stands = record {
          run = subst (λ m. LifeRun plain_serving m e.timed.lists.life (with_ring run.ring) p.last (told_end e))
              (sym plays.me) p.run;
          serves = subst (λ total. PlainStands total (served_after_all plain_mode [] p.last))
              (total-is end.ends n e at)
              (subst (λ (z : Served). PlainStands (get_or (totals_of end) n 0) z)
              (served-last n first_life e.timed.lists.life p.older p.last p.over) all);
          staffed = plays.staffed;
        };
      }

  pub all-stand : AllStand h end.ends
  all-stand n = by (slice_get end.ends n) refl
    where
      by : (o : Option End) → slice_get end.ends n ≡ o → StandsIf n h o
      by None at = subst (RunAt n (facts_of n h))
          (slice_get-map told_end end.ends n ∙ ap (option_map told_end) at) (runs n)
      by (Some e) at = stands-at n e at (subst (RunAt n (facts_of n h))
          (slice_get-map told_end end.ends n ∙ ap (option_map told_end) at) (runs n))

-- a node with facts is there
pub node-there : (h : List Fact) (ends : List End) (n : ℕ) → AllStand h ends → facts_of n h ≢ []
    → n < length ends
node-there h ends n all some = by (slice_get ends n) refl (all n)
  where
    within : (xs : List End) (i : ℕ) (x : End) → slice_get xs i ≡ Some x → i < length xs
    within [] i x at = cc
    within (y ∷ xs) zero x at = omega arith
    within (y ∷ xs) (suc i) x at = let less = within xs i x at in omega (arith, less)

    by : (o : Option End) → slice_get ends n ≡ o → StandsIf n h o → n < length ends
    by None at none = absurd (some none)
    by (Some e) at stands = within ends n e at

pub node-stands : (h : List Fact) (ends : List End) (n : ℕ) (e : End) → AllStand h ends
    → slice_get ends n ≡ Some e → StandsAt n h e
node-stands h ends n e all at = subst (StandsIf n h) at (all n)
