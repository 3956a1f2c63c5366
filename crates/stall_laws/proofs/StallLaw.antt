-- Where a history is settled, each call that isn't over has its cause.
use Rattle.stall_laws.proofs.Living.{first-living}
use Rattle.std.proofs.Common.{◌≡◌, ◌<◌, ◌≤◌, ◌==◌, ◌⊎◌, inl, inr, ℕ, zero, suc, nat_lt, Bool}
use Rattle.std.proofs.Common.{true, false, cond}
use Rattle.std.proofs.Common.{List, [], ◌∷◌}
use Rattle.std.proofs.Common.{length, Option, Some, None, slice_get, refl, sym, ap, ◌∙◌, subst}
use Rattle.std.proofs.Common.{arith, ltb-true, ltb-false}
use Rattle.std.specs.Prelude.{is_some}
use Rattle.std.specs.Bool.{MatchBool}
use Rattle.std.specs.List.{AllByRecursion}
use Rattle.std.proofs.lemmas.Option.{slice_get_within}
use Rattle.rpc_base.proofs.BasicLemmas.{false-true}
use Rattle.rpc_base.specs.declared.fact.Fact.{Fact}
use Rattle.rpc_base.proofs.PlaceLemmas.{all-at}
use Rattle.rpc_laws.specs.declared.tables.Call.{Call}
use Rattle.rpc_laws.specs.declared.tables.Client.{Client}
use Rattle.rpc_laws.specs.declared.tables.Lists.{Lists}
use Rattle.rpc_laws.specs.declared.tables.Progress.{Progress}
use Rattle.rpc_laws.specs.declared.tables.Timed.{Timed}
use Rattle.rpc_laws.specs.Calls.{asked_packets, known_packets}
use Rattle.rpc_laws.specs.Endpoints.{Endpoint}
use Rattle.rpc_laws.specs.Lives.{first_life}
use Rattle.rpc_laws.specs.Posting.{can_post, has_postable}
use Rattle.rpc_laws.specs.Service.{plain_serving}
use Rattle.rpc_laws.specs.Sessions.{is_connected}
use Rattle.rpc_laws.specs.UsualLimits.{with_ring}
use Rattle.script_grammar.specs.declared.line.Line.{Line}
use Rattle.sim_script.specs.FollowsScript.{Follows, empty_stage}
use Rattle.end_laws.specs.Moments.{Moment, first_moment}
use Rattle.end_laws.specs.TwoEnds.{here}
use Rattle.end_laws.specs.TwoNodes.{PairsTwo, PairsTwoNodes}
use Rattle.end_laws.proofs.Allowed.{is_packet}
use Rattle.end_laws.proofs.GoodStart.{first-right}
use Rattle.end_laws.proofs.ListLemmas.{all-front}
use Rattle.end_laws.proofs.PairLeads.{follows-lead, empty-fits}
use Rattle.ring_laws.proofs.Counting.{value}
use Rattle.ring_laws.proofs.Loads.{Filter, Pairing, client_packets, on_way}
use Rattle.world_laws.specs.FewCredits.{PairsFew, PairsFewCredits}
use Rattle.world_laws.specs.NodeFacts.{facts_of, RunAt, IsRun}
use Rattle.world_laws.proofs.ScriptLaws.{script-runs}
use Rattle.stall_laws.specs.Caused.{CauseBy, Caused, WasLost, active_calls}
use Rattle.stall_laws.specs.NoStall.{NoStall}
use Rattle.stall_laws.specs.Settled.{IsSettled, IsEmpty, awaits_poll, moment_of}
use Rattle.stall_laws.proofs.Dues.{nothing}
use Rattle.stall_laws.proofs.Ends.{end-of}
use Rattle.stall_laws.proofs.Held.{pair_of, Held}
use Rattle.stall_laws.proofs.IdleLaw.{lives-rests}
use Rattle.stall_laws.proofs.Moves.{follows-moves, course-end}
use Rattle.stall_laws.proofs.OnePlace.{placed-all}
use Rattle.stall_laws.proofs.Ongoing.{OngoingBy, OngoingCall, Ongoing}
use Rattle.stall_laws.proofs.Reach.{HeldBy, HeldCall, HeldNode}
use Rattle.stall_laws.proofs.ReachLaw.{At, course-reach}
use Rattle.stall_laws.proofs.Resting.{AllBegun, AllPosted, Rests}
use Rattle.stall_laws.proofs.Standing.{server_here, standing}

-- nothing is known before the first fact
first-at : At [] first_moment nothing
first-at = record {
  moment = refl;
  right = first-right;
  valid = λ n l is. absurd (cc);
  living = first-living;
  newest = λ n l is. absurd (cc);
  reach = λ n l is. absurd (cc);
}

-- where all lists are empty, no packet stands anywhere
client-none : (p : Filter) (s : ℕ) (nodes : List Lists) (n : ℕ) (o : Option Lists) → slice_get nodes n ≡ o
    → ((l : Lists) → slice_get nodes n ≡ Some l → IsEmpty l)
    → value (client_packets p s) o ≡ 0
client-none p s nodes n None is e = refl
client-none p s nodes n (Some l) is e = let k = e l is in rw (k.queued, k.ring) refl

none-by : (b : Bool) → cond {A = ℕ} b 0 0 ≡ 0
none-by true = refl
none-by false = refl

server-none : (p : Filter) (life t : ℕ) (nodes : List Lists) (n : ℕ) (o : Option Lists)
    → slice_get nodes n ≡ o → ((l : Lists) → slice_get nodes n ≡ Some l → IsEmpty l)
    → value (server_here p life t 0) o ≡ 0
server-none p life t nodes n None is e = refl
server-none p life t nodes n (Some l) is e =
    let k = e l is in rw (k.queued, k.ring, k.jobs) (none-by (l.life == life))

none-stands : (r k : ℕ) (x : Pairing) (w : Moment) → w.flight ≡ []
    → ((n : ℕ) (l : Lists) → slice_get w.nodes n ≡ Some l → IsEmpty l) → standing r k x nothing w ≡ 0
none-stands r k x w flight empty =
    let a = client-none (is_packet r k) x.client w.nodes x.home (slice_get w.nodes x.home) refl (empty x.home) in
    let b = server-none (is_packet r k) x.node_life x.session w.nodes x.node
    (slice_get w.nodes x.node) refl (empty x.node) in
    let c : on_way (is_packet r k) x w.flight ≡ 0 = ap (on_way (is_packet r k) x) flight in
    omega arith

-- the run of a node at rest
node-rests : (n : ℕ) (facts : List Fact) (t : Timed) → awaits_poll false facts ≡ false
    → IsRun n facts t → AllByRecursion Ongoing t.lists.clients
    × AllByRecursion Rests t.lists.clients
node-rests n facts t e r =
    let rest = lives-rests plain_serving n (with_ring r.ring) first_life r.later t r.run in
    (rest.ongoing, rest.rests (sym (ap (awaits_poll false) r.made) ∙ e))

past : {A : Type 0} (xs : List A) (j : ℕ) → slice_get xs j ≡ None → length xs ≤ j
past [] j h = omega arith
past (y ∷ ys) zero h = cc
past (y ∷ ys) (suc j) h = let le = past ys j h in omega arith

-- a cause for each call
cause-by : (h : List Fact) (n : Endpoint) (x : Client) (c : Call) (o : Option Progress) → c.progress ≡ o
    → IsSettled h → OngoingBy c.what o → AllBegun x × AllPosted x → (is_some o ≡ false → active_calls x ≡ 8)
    → (can_post c ≡ false → has_postable c.what o ≡ false)
    → (x.free ≡ 0) ⊎ (can_post c ≡ false)
    → HeldBy h (moment_of h) nothing n x.way c.what.number o → CauseBy h n x c.what.number o
cause-by h n x c None is settled on rests eight can posted held = eight refl
cause-by h n x c (Some p) is settled on rests eight can posted held = by (nat_lt p.got p.posted) refl
  where
    lost : p.got < p.posted → Held h (moment_of h) nothing n x.way c.what.number p.request p.got
        → WasLost h n x.way c.what.number p.request
    lost lt (inr v) = v
    lost lt (inl some) =
        let none = none-stands p.request p.got (pair_of n x.way) (moment_of h) settled.flight settled.lists in
        absurd (omega arith)

    free : p.posted ≤ p.got → (x.free ≡ 0) ⊎ (can_post c ≡ false) → x.free ≡ 0
    free le (inl e) = e
    free le (inr unable) =
        let high = ltb-false p.posted (known_packets (asked_packets c.what) p.answer) (can unable) in
        absurd (omega arith)

    by : (b : Bool) → nat_lt p.got p.posted ≡ b → MatchBool b (WasLost h n x.way c.what.number p.request) (x.free ≡ 0)
    by true e =
        let lt = ltb-true p.got p.posted e in
        lost lt (held p.got (omega arith) lt)
    by false e = free (ltb-false p.got p.posted e) posted

call-caused : (h : List Fact) (n : Endpoint) (x : Client) (c : Call) (i : ℕ) → slice_get x.calls i ≡ Some c
    → IsSettled h → OngoingCall c → AllBegun x × AllPosted x
    → HeldCall h (moment_of h) nothing n x.way c → CauseBy h n x c.what.number c.progress
call-caused h n x c i is settled on rests held =
    cause-by h n x c c.progress refl settled on rests (eight rests.0) (λ e. e) (posted rests.1) held
  where
    eight : AllBegun x → is_some c.progress ≡ false → active_calls x ≡ 8
    eight (inr e) waits = e
    eight (inl all) waits = false-true (sym waits ∙ all-at (λ d. is_some d.progress ≡ true) x.calls i c all is)

    posted : AllPosted x → (x.free ≡ 0) ⊎ (can_post c ≡ false)
    posted (inl e) = inl e
    posted (inr all) = inr (all-at (λ d. can_post d ≡ false) x.calls i c all is)

client-caused : (h : List Fact) (n : Endpoint) (x : Client) → IsSettled h → Ongoing x → Rests x
    → (is_connected x.state ≡ true → AllByRecursion (HeldCall h (moment_of h) nothing n x.way) x.calls)
    → AllByRecursion (λ c. CauseBy h n x c.what.number c.progress) x.calls
client-caused h n x settled on rests held = by (is_connected x.state) refl
  where
    by : (b : Bool) → is_connected x.state ≡ b → AllByRecursion (λ c. CauseBy h n x c.what.number c.progress) x.calls
    by false e = rw (on.alive e) tt
    by true e =
        placed-all (λ c. CauseBy h n x c.what.number c.progress) x.calls
        (λ i c is. call-caused h n x c i is settled (all-at OngoingCall x.calls i c on.calls is) (rests e)
        (all-at (HeldCall h (moment_of h) nothing n x.way) x.calls i c (held e) is))

-- at the end of a script
script-caused : (lines : List Line) (h : List Fact) → PairsTwoNodes lines → PairsFewCredits lines
    → Follows lines h → IsSettled h → Caused h
script-caused lines h two few f settled n l is =
    let lead = follows-lead lines two empty_stage first_moment h f.0 empty-fits f.1.commands in
    let end : lead.end ≡ moment_of h = course-end first_moment h lead.end lead.course in
    let moves = follows-moves lines h two f in
    let at = course-reach first_moment h lead.end lead.course [] nothing nothing moves first-at in
    let reach : HeldNode h (moment_of h) nothing n l =
    subst (λ (w : Moment). (m : Lists) → slice_get w.nodes n ≡ Some m → HeldNode h w nothing n m) end
    (λ m k. at.reach n m k) l is in
    let there : slice_get lead.end.nodes n ≡ Some l = ap (λ (w : Moment). slice_get w.nodes n) end ∙ is in
    let runs = script-runs lines h f.0 two few f.1 in
    by (slice_get f.0.nodes n) refl (runs n) lead.end.nodes lead.fits.size there
    (λ t k. (lead.fits.nodes n t k).is_node) reach
  where
    by : (o2 : Option Timed) → slice_get f.0.nodes n ≡ o2 → RunAt n (facts_of n h) o2
        → (nodes : List Lists) → length nodes ≡ length f.0.nodes → slice_get nodes n ≡ Some l
        → ((t : Timed) → slice_get f.0.nodes n ≡ Some t → slice_get nodes n ≡ Some t.lists)
        → HeldNode h (moment_of h) nothing n l
        → AllByRecursion (λ x. AllByRecursion (λ c. CauseBy h (here n l) x c.what.number c.progress)
        x.calls) l.clients
    by None none run nodes size there nodes_are reach =
        let low = slice_get_within nodes n l there in
        let high = past f.0.nodes n none in
        absurd (omega arith)
    by (Some t) found run nodes size there nodes_are reach =
        let same_node = nodes_are t found in
        let same : t.lists ≡ l = cc in
        let rest = node-rests n (facts_of n h) t (settled.polled n) run in
        let on : AllByRecursion Ongoing l.clients = subst (λ (m : Lists). AllByRecursion Ongoing m.clients) same
        rest.0 in
        let rests : AllByRecursion Rests l.clients = subst (λ (m : Lists). AllByRecursion Rests m.clients) same
        rest.1 in
        placed-all (λ x. AllByRecursion (λ c. CauseBy h (here n l) x c.what.number c.progress)
        x.calls) l.clients
        (λ s x at. client-caused h (here n l) x settled (all-at Ongoing l.clients s x on at)
        (all-at Rests l.clients s x rests at) (reach s x at))

-- at each end of a command
pub no-stall : (script : List Line) (h : List Fact) → PairsTwoNodes script → PairsFewCredits script
    → Follows script h → NoStall script h
no-stall script h two few f done left lines =
    let end = end-of done left h (subst (λ (s : List Line). Follows s h) lines f) in
    record {
      facts = end.facts;
      later = end.later;
      parted = end.parted;
      follows = end.follows;
      caused =
          script-caused done end.facts
          (all-front (λ line. PairsTwo line.command) done left (subst PairsTwoNodes lines two))
          (all-front (λ line. PairsFew line.command) done left (subst PairsFewCredits lines few))
          end.follows;
    }
