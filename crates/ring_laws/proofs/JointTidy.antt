-- Where a joint run leaves its nodes while it is calm, packets stand once.
use Rattle.rpc_laws.specs.UsualLimits.{with_ring}
use Rattle.std.proofs.Common.{◌+◌, ℕ, Bool, List, ◌∷◌, length}
use Rattle.rpc_base.specs.declared.event.Event.TheVariants.{Made}
use Rattle.rpc_base.specs.declared.fact.Fact.{Fact}
use Rattle.rpc_laws.specs.Endpoints.{told}
use Rattle.rpc_laws.specs.Facts.{plain}
use Rattle.end_laws.specs.JointRun.{Party, Joint, JointRun, LeavesAs}
use Rattle.end_laws.specs.Moments.{Moment, moved, first_moment}
use Rattle.end_laws.proofs.Courses.{made_as, made_at, Course, over, in_net, made, at_node, pairs}
use Rattle.end_laws.proofs.Courses.{restarts, resets, clocked, paired, client_fact, server_fact}
use Rattle.end_laws.proofs.GoodStart.{first-right, first-valid}
use Rattle.end_laws.proofs.JointLaws.{joint-leaves}
use Rattle.end_laws.proofs.SendsLaw.{AllRight, right-net, right-made, right-noted, right-paired}
use Rattle.end_laws.proofs.SendsLaw.{right-restart}
use Rattle.end_laws.proofs.Valids.{AllValid, valid-net, valid-made, valid-node, valid-pair}
use Rattle.end_laws.proofs.Valids.{valid-restart}
use Rattle.ring_laws.specs.CalmRing.{Calm}
use Rattle.ring_laws.specs.PairsOnce.{IsTidy}
use Rattle.ring_laws.proofs.RingLaw.{met-clocked, calm-parts, no-restart, rough-repeat, rough-roll}
use Rattle.ring_laws.proofs.PairLaw.{Tidy, tidy-once, tidy-net, tidy-made, tidy-node, tidy-pair, first-tidy}

pub record Kept (w : Moment) : Type 0 where
  pub right : AllRight w
  pub valid : AllValid w
  pub tidy : Calm w.past → Tidy w

abbrev pub tidy-clocked : (w : Moment) (clock : ℕ) → Tidy w → Tidy (clocked w clock)
tidy-clocked w clock t = record { met = met-clocked w clock t.met; pairs = t.pairs; replies = t.replies }

pub course-kept : {free : Bool} (w : Moment) (h : List Fact) (u : Moment) → Course free w h u → Kept w → Kept u
course-kept _ _ _ (over w) k = k
course-kept _ _ _ (in_net w f h u who c) k =
    course-kept (moved w f) h u c (record {
      right = right-net w f who k.right;
      valid = valid-net w f who k.valid;
      tidy = λ calm. let parts = calm-parts w.past f calm in
          tidy-net w f who (rough-repeat f.event parts.0) (k.tidy parts.1);
    })
course-kept _ _ _ (made w ring h u c) k =
    course-kept _ h u c (record {
      right = right-made w (with_ring ring) k.right;
      valid = valid-made w (with_ring ring) k.valid;
      tidy = λ calm. let parts = calm-parts w.past (plain (length w.nodes) (Made ring)) calm in
          tidy-made w (with_ring ring) (k.tidy parts.1);
    })
course-kept _ _ _ (at_node w n l f h u a c) k =
    course-kept (moved w f) h u c (record {
      right = right-noted w n l f a k.right;
      valid = valid-node w n l f a k.valid;
      tidy = λ calm. let parts = calm-parts w.past f calm in
          tidy-node w n l f a k.right k.valid (rough-roll f.event parts.0) (k.tidy parts.1);
    })
course-kept _ _ _ (restarts w n l h u is me life c) k =
    course-kept _ h u c (record {
      right = right-restart w n l is k.right;
      valid = valid-restart w n l is k.valid;
      tidy = λ calm. absurd (no-restart n (l.life + 1) w.past calm);
    })
course-kept _ _ _ (pairs w n m credits client server h u e c) k =
    course-kept (paired w n m credits client server) h u c (record {
      right = right-paired w n m credits client server e k.right;
      valid = valid-pair w n m credits client server e k.valid;
      tidy = λ calm. let parts = calm-parts (told w.past (client_fact n m credits client server) ∷ w.past)
          (server_fact n m credits client server) calm in
          let before = k.tidy (calm-parts w.past (client_fact n m credits client server) parts.1).1 in
          tidy-pair w n m credits client server e k.right k.valid before;
    })
course-kept _ _ _ (made_as w limits h u is c) k =
    course-kept (made_at w limits) h u c (record {
      right = right-made w limits k.right;
      valid = valid-made w limits k.valid;
      tidy = λ calm. let parts = calm-parts w.past (plain (length w.nodes) (Made limits.ring)) calm in
          tidy-made w limits (k.tidy parts.1);
    })
course-kept _ _ _ (resets w clock h u is c) k =
    course-kept (clocked w clock) h u c (record {
      right = k.right;
      valid = k.valid;
      tidy = λ calm. tidy-clocked w clock (k.tidy calm);
    })

pub joint-tidy : (parties : ℕ → Party) (h : List Fact) (t : Joint) → JointRun parties h t
    → LeavesAs (λ w. Calm w.past → IsTidy w) h t
joint-tidy parties h t run =
    let l = joint-leaves parties h t run in
    let k = course-kept first_moment h l.end l.course (record { right = first-right; valid = first-valid; tidy = λ calm. first-tidy }) in
    record {
      moment = l.end;
      nodes = l.nodes;
      flight = l.flight;
      past = l.past;
      holds = λ calm. tidy-once l.end k.valid (k.tidy calm);
    }
