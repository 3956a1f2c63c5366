-- A node is made anew.
use Rattle.std.proofs.Common.{◌≡◌, ℕ, ◌+◌, Some, List, [], ◌∷◌, ◌++◌, drop, length, map, refl, sym, ap}
use Rattle.std.proofs.Common.{subst, ◌∙◌}
use Rattle.std.specs.Prelude.{option_map}
use Rattle.std.specs.List.{slice_get, slice_set}
use Rattle.std.proofs.lemmas.Option.{slice_get-map}
use Rattle.ring_laws.proofs.Frames.{map-set}
use Rattle.rpc_base.specs.declared.event.Event.TheVariants.{Restarted}
use Rattle.rpc_base.specs.declared.fact.Fact.{Fact}
use Rattle.rpc_base.specs.declared.limits.Limits.{Limits}
use Rattle.rpc_laws.specs.declared.tables.Timed.{Timed}
use Rattle.rpc_laws.specs.Facts.{plain}
use Rattle.rpc_laws.specs.NodeLists.{limits_of, new_node}
use Rattle.rpc_laws.specs.Working.{worked_after_all}
use Rattle.sim_script.specs.FollowsScript.{Restarts}
use Rattle.rpc_world.specs.Answered.{End, Plainly, Play, stage_of, told_end, totals_of}
use Rattle.rpc_world.specs.Before.{AllCanRestart, AllPlay, CanRestart, IsNumbered, IsPlaying}
use Rattle.rpc_world.specs.Performed.{Performed}
use Rattle.rpc_world.proofs.PairLemmas.{node-of}
use Rattle.rpc_world.proofs.PlainLemmas.{plainly-served}
use Rattle.rpc_world.proofs.StepLemmas.{since, stepped_play, steps-play}
use Rattle.work_laws.proofs.StayLaws.{restart-knows}
use Rattle.work_laws.specs.Known.{KnowsWork}
use Rattle.worker_crew.specs.Local.{Local}

abbrev no_jobs : ℕ → Local
no_jobs limit = record { limit = limit; given = 0; waiting = []; worked = [] }

-- an endpoint of node n in this life, with these limits
abbrev pub fresh_end : (n life : ℕ) → Limits → End
fresh_end n life limits = record {
  timed = new_node n life limits;
  handed = [];
  service = 0;
  workers = no_jobs limits.jobs;
}

module _ (n : ℕ) (s : Play) (e : End) (at : slice_get s.ends n ≡ Some e) where
  abbrev next : ℕ
  next = e.timed.lists.life + 1

  abbrev limits : Limits
  limits = limits_of e.timed.lists

  abbrev fresh : End
  fresh = fresh_end n next limits

  abbrev x : List Fact
  x = plain n (Restarted next) ∷ []

  abbrev anew : Play
  anew = stepped_play s n fresh x

  fresh-plays : IsPlaying s.worked n e → IsPlaying (worked_after_all s.worked x) n fresh
  fresh-plays p = record {
    me = refl;
    staffed = record {
      agree = record { same = λ count. refl; ready = tt };
      limit_is = refl;
      given_is = refl;
    };
    knows = subst (λ (m : ℕ). KnowsWork (worked_after_all s.worked (plain m (Restarted next) ∷ []))
        (new_node m next limits) (no_jobs limits.jobs)) p.me
        (restart-knows s.worked (told_end e) (no_jobs limits.jobs) refl refl);
  }

  left-anew : e.timed.lists.me ≡ n → stage_of anew ≡ record {
    nodes = slice_set (map told_end s.ends) n (new_node e.timed.lists.me next limits);
    flight = s.flight;
    worked = worked_after_all s.worked x;
    clock = s.clock;
  }
  left-anew me =
      ap (λ (ns : List Timed). record {
        nodes = ns;
        flight = s.flight;
        worked = worked_after_all s.worked x;
        clock = s.clock;
      }) (map-set told_end s.ends n fresh
      ∙ ap (λ (m : ℕ). slice_set (map told_end s.ends) n (new_node m next limits)) (sym me))

  anew-plain : Plainly x (totals_of s) (totals_of anew)
  anew-plain =
      subst (λ (b : List ℕ). Plainly x (totals_of s) b) (sym (map-set (λ (y : End). y.service) s.ends n fresh))
      (plainly-served n e.service 0 x (totals_of s)
      (slice_get-map (λ (y : End). y.service) s.ends n ∙ ap (λ o. option_map (λ (y : End). y.service) o) at)
      (refl, tt) (λ served stands. ((tt, tt), refl)) refl)

  -- its endpoint is a new one
  restarts-at : (f g : List Fact) → AllPlay s → g ≡ f ++ x → Performed (Restarts n) s anew f g
  restarts-at f g all grew =
      let me = (all.each n e at).me in
      record {
        group = x;
        grew = grew;
        does = record {
          before = told_end e;
          is_node = node-of s n e at;
          facts = ap (λ (m : ℕ). plain m (Restarted next) ∷ []) (sym me);
          left = left-anew me;
        };
        plain = anew-plain;
        keeps = λ a. steps-play n s e fresh x at (refl, tt) fresh-plays
            (λ i. record { names = (tt, tt); peers = (tt, tt, tt) }) a;
      }

-- so it is where the world was taken apart and put together again
pub restarts-node : (n life : ℕ) (limits : Limits) (z s : Play) (e new : End) (f g : List Fact)
    (from : ℕ) (t : Play) → z ≡ s → IsNumbered s → slice_get z.ends n ≡ Some e
    → life ≡ e.timed.lists.life + 1 → limits ≡ limits_of e.timed.lists → new ≡ fresh_end n life limits
    → g ≡ f ++ plain n (Restarted life) ∷ [] → from ≡ length f
    → t ≡ stepped_play z n new (drop from g) → Performed (Restarts n) s t f g
restarts-node n life limits z s e new f g from t view m at is_life is_limits is_new grew is_from is =
    let there : slice_get s.ends n ≡ Some e = ap (λ (y : Play). slice_get y.ends n) (sym view) ∙ at in
    let back = since f (plain n (Restarted life) ∷ []) g from grew is_from in
    let made : new ≡ fresh_end n (e.timed.lists.life + 1) (limits_of e.timed.lists) =
    is_new ∙ (ap (λ (k : ℕ). fresh_end n k limits) is_life
    ∙ ap (λ (l : Limits). fresh_end n (e.timed.lists.life + 1) l) is_limits) in
    let noted : drop from g ≡ plain n (Restarted (e.timed.lists.life + 1)) ∷ [] =
    back ∙ ap (λ (k : ℕ). plain n (Restarted k) ∷ []) is_life in
    let same : stepped_play s n (fresh_end n (e.timed.lists.life + 1) (limits_of e.timed.lists))
    (plain n (Restarted (e.timed.lists.life + 1)) ∷ []) ≡ t =
    ap (λ (y : List Fact). stepped_play s n (fresh_end n (e.timed.lists.life + 1)
    (limits_of e.timed.lists)) y) (sym noted)
    ∙ (ap (λ (y : End). stepped_play s n y (drop from g)) (sym made)
    ∙ (ap (λ (y : Play). stepped_play y n new (drop from g)) (sym view) ∙ sym is)) in
    subst (λ (u : Play). Performed (Restarts n) s u f g) same
    (restarts-at n s e there f g m.playing
    (grew ∙ ap (λ (k : ℕ). f ++ plain n (Restarted k) ∷ []) is_life))

-- so can its endpoint be made anew
pub anew-at : (z s : Play) (n : ℕ) (e : End) → z ≡ s → AllCanRestart s → slice_get z.ends n ≡ Some e
    → CanRestart e
anew-at z s n e view all at = all n e (ap (λ (y : Play). slice_get y.ends n) (sym view) ∙ at)
