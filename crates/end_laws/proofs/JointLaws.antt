-- What a joint run leaves is what its course ends with: what is so of the ends of sessions there.
use Rattle.rpc_laws.specs.UsualLimits.{with_ring}
use Rattle.std.proofs.Common.{◌≡◌, ℕ, suc, Bool, true, List, [], ◌∷◌, length, Some, None}
use Rattle.std.proofs.Common.{slice_get, refl, subst}
use Rattle.std.specs.Prelude.{map}
use Rattle.rpc_base.specs.declared.fact.Fact.{Fact}
use Rattle.rpc_laws.specs.declared.tables.Lists.{Lists}
use Rattle.rpc_laws.specs.declared.tables.Timed.{Timed}
use Rattle.end_laws.specs.Handshakes.{Agree}
use Rattle.end_laws.specs.JointRun.{Party, Joint, JointRun, moment_left}
use Rattle.end_laws.specs.Moments.{Moment, moved, first_moment, lived_first}
use Rattle.end_laws.specs.TwoEnds.{TwoEnds}
use Rattle.end_laws.proofs.AgreeLaw.{agree-of, LetsIn, first-lets, step-net, lets-made, step-node}
use Rattle.end_laws.proofs.AgreeLaw.{step-pair, step-restart}
use Rattle.end_laws.proofs.Courses.{made_as, made_at, Course, over, in_net, made, at_node, pairs, restarts, resets}
use Rattle.end_laws.proofs.Courses.{clocked, paired}
use Rattle.end_laws.proofs.GoodStart.{first-good, first-right, first-valid}
use Rattle.end_laws.proofs.GoodSteps.{good-net, good-made, good-node, good-restart}
use Rattle.end_laws.proofs.JointLeads.{joint-leads}
use Rattle.end_laws.proofs.Known.{Good}
use Rattle.end_laws.proofs.OwnLaw.{good-clocked, good-paired}
use Rattle.end_laws.proofs.SendsLaw.{AllRight, right-net, right-made, right-noted, right-paired, right-restart}
use Rattle.end_laws.proofs.TwoEndsLaw.{good-ends}
use Rattle.end_laws.proofs.Valids.{AllValid, valid-net, valid-made, valid-node, valid-pair, valid-restart}

-- what is kept from fact to fact
pub record Sound (w : Moment) : Type 0 where
  pub right : AllRight w
  pub valid : AllValid w
  pub good : Good w
  pub lets : LetsIn w

pub first-sound : Sound first_moment
first-sound = record { right = first-right; valid = first-valid; good = first-good; lets = first-lets }

-- so it is at the end of each course
pub course-sound : {free : Bool} (w : Moment) (h : List Fact) (u : Moment) → Course free w h u → Sound w → Sound u
course-sound _ _ _ (over w) k = k
course-sound _ _ _ (in_net w f h u who c) k =
    course-sound (moved w f) h u c (record {
      right = right-net w f who k.right;
      valid = valid-net w f who k.valid;
      good = good-net w f who k.good;
      lets = step-net w f who k.lets;
    })
course-sound _ _ _ (made w ring h u c) k =
    course-sound _ h u c (record {
      right = right-made w (with_ring ring) k.right;
      valid = valid-made w (with_ring ring) k.valid;
      good = good-made w (with_ring ring) k.good;
      lets = lets-made w.nodes w.past (with_ring ring) k.lets;
    })
course-sound _ _ _ (at_node w n l f h u a c) k =
    course-sound (moved w f) h u c (record {
      right = right-noted w n l f a k.right;
      valid = valid-node w n l f a k.valid;
      good = good-node w n l f a k.right k.valid k.good;
      lets = step-node w n l f a k.valid k.lets;
    })
course-sound _ _ _ (restarts w n l h u is me life c) k =
    course-sound _ h u c (record {
      right = right-restart w n l is k.right;
      valid = valid-restart w n l is k.valid;
      good = good-restart w n l is me k.good;
      lets = step-restart w n l is life k.lets;
    })
course-sound _ _ _ (pairs w n m credits client server h u e c) k =
    course-sound (paired w n m credits client server) h u c (record {
      right = right-paired w n m credits client server e k.right;
      valid = valid-pair w n m credits client server e k.valid;
      good = good-paired w n m credits client server e k.right k.valid k.good;
      lets = step-pair w n m credits client server e k.lets;
    })
course-sound _ _ _ (made_as w limits h u is c) k =
    course-sound (made_at w limits) h u c (record {
      right = right-made w limits k.right;
      valid = valid-made w limits k.valid;
      good = good-made w limits k.good;
      lets = lets-made w.nodes w.past limits k.lets;
    })
course-sound _ _ _ (resets w clock h u is c) k =
    course-sound (clocked w clock) h u c (record {
      right = k.right;
      valid = k.valid;
      good = good-clocked w clock k.good;
      lets = k.lets;
    })

-- the facts so far are the facts of the course
pub course-past : {free : Bool} (w : Moment) (h : List Fact) (u : Moment) → Course free w h u
    → u.past ≡ lived_first w.past h
course-past _ _ _ (over w) = refl
course-past _ _ _ (in_net w f h u who c) = course-past (moved w f) h u c
course-past _ _ _ (made w ring h u c) = course-past _ h u c
course-past _ _ _ (at_node w n l f h u a c) = course-past (moved w f) h u c
course-past _ _ _ (restarts w n l h u is me life c) = course-past _ h u c
course-past _ _ _ (pairs w n m credits client server h u e c) = course-past _ h u c
course-past _ _ _ (made_as w limits h u is c) = course-past (made_at w limits) h u c
course-past _ _ _ (resets w clock h u is c) = course-past (clocked w clock) h u c

-- lists of one length with the same elements are the same
same-places : (xs : List Lists) (ts : List Timed) → length xs ≡ length ts
    → ((j : ℕ) (z : Timed) → slice_get ts j ≡ Some z → slice_get xs j ≡ Some z.lists)
    → xs ≡ map (λ s. s.lists) ts
same-places [] [] e h = refl
same-places [] (t ∷ ts) e h = cc
same-places (x ∷ xs) [] e h = cc
same-places (x ∷ xs) (t ∷ ts) e h =
    let first : Some x ≡ Some t.lists = h 0 t refl in
    let head : x ≡ t.lists = cc in
    let size : length xs ≡ length ts = cc in
    let rest = same-places xs ts size (λ j z is. h (suc j) z is) in
    rw (head, rest) refl

-- what a joint run leaves
pub record Leaves (h : List Fact) (t : Joint) : Type 0 where
  pub end : Moment
  pub course : Course true first_moment h end
  pub nodes : end.nodes ≡ map (λ s. s.lists) t.nodes
  pub flight : end.flight ≡ t.flight
  pub past : end.past ≡ lived_first [] h

pub joint-leaves : (parties : ℕ → Party) (h : List Fact) (t : Joint) → JointRun parties h t
    → Leaves h t
joint-leaves parties h t run =
    let l = joint-leads parties run.steps in
    record {
      end = l.end;
      course = l.course;
      nodes = same-places l.end.nodes t.nodes l.fits.size (λ j z is. (l.fits.nodes j z is).is_node);
      flight = l.fits.flight;
      past = course-past first_moment h l.end l.course;
    }

abbrev pub put_down : Moment → Moment
put_down w = record w { hand = None; clock = 0 }

pub left-is : (h : List Fact) (t : Joint) → (l : Leaves h t) → put_down l.end ≡ moment_left h t
left-is h t l = rw (← l.nodes, ← l.flight, ← l.past) refl

pub joint-ends : (parties : ℕ → Party) (h : List Fact) (t : Joint) → JointRun parties h t
    → TwoEnds (moment_left h t)
joint-ends parties h t run =
    let l = joint-leaves parties h t run in
    let k = course-sound first_moment h l.end l.course first-sound in
    let e = good-ends l.end k.right k.good in
    subst TwoEnds (left-is h t l) (record { servers = e.servers; jobs = e.jobs; clients = e.clients })

pub joint-agree : (parties : ℕ → Party) (h : List Fact) (t : Joint) → JointRun parties h t
    → Agree (moment_left h t)
joint-agree parties h t run =
    let l = joint-leaves parties h t run in
    let k = course-sound first_moment h l.end l.course first-sound in
    let a = agree-of l.end k.valid k.good k.lets in
    subst Agree (left-is h t l) (record {
      replies = record {
        flight = a.replies.flight;
        hand = tt;
        rings = a.replies.rings;
        inboxes = a.replies.inboxes;
      };
      let_go = a.let_go;
    })
