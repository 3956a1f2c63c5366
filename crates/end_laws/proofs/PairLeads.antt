-- A pairing, each command, and whole scripts, from moment to moment.
use Rattle.std.proofs.Common.{◌≡◌, ◌+◌, ◌||◌, ℕ, nat_lt, Bool, true, false, cond, List, [], ◌∷◌}
use Rattle.std.proofs.Common.{length, Option, Some, None, slice_get, refl, sym, ap, ◌∙◌, subst, ◌≤◌}
use Rattle.std.proofs.Common.{ltb-false}
use Rattle.std.specs.List.{slice_set}
use Rattle.rpc_base.specs.declared.event.Event.{Event}
use Rattle.rpc_base.specs.declared.event.Event.TheVariants.{PairedClient, PairedServer, NconnectRing, NconnectNumbers}
use Rattle.rpc_base.specs.declared.fact.Fact.{Fact}
use Rattle.rpc_base.proofs.PlaceLemmas.{set-here, set-other}
use Rattle.network_model.specs.declared.stage.Stage.{Stage}
use Rattle.rpc_laws.specs.declared.tables.InFlight.{InFlight}
use Rattle.rpc_laws.specs.declared.tables.Lists.{Lists}
use Rattle.rpc_laws.specs.declared.tables.Timed.{Timed}
use Rattle.rpc_laws.specs.BufferSafety.{changed}
use Rattle.rpc_laws.specs.Endpoints.{Lived, life_by, told}
use Rattle.rpc_laws.specs.Facts.{plain}
use Rattle.rpc_laws.specs.Groups.{clients_spent, servers_spent, pair_refusal, shares}
use Rattle.rpc_laws.specs.declared.tables.WorkedJob.{WorkedJob}
use Rattle.rpc_laws.specs.Working.{worked_after_all}
use Rattle.rpc_laws.specs.InFlight.{flight_after_all}
use Rattle.rpc_laws.specs.NodeLists.{after}
use Rattle.script_grammar.specs.declared.line.Command.{Command}
use Rattle.script_grammar.specs.declared.line.Command.TheVariants.{Node, Pair, Connect, Disconnect}
use Rattle.script_grammar.specs.declared.line.Command.TheVariants.{Rate, Call, Poll, Arrive, Lose}
use Rattle.script_grammar.specs.declared.line.Command.TheVariants.{Repeat, Restart, Tick, Work, Settle}
use Rattle.script_grammar.specs.declared.line.Line.{Line}
use Rattle.sim_script.specs.FollowsScript.{ask_bytes, noted, PairsEnds, PairsBy, Pairs, Does}
use Rattle.sim_script.specs.FollowsScript.{FollowsFrom, Follows, empty_stage}
use Rattle.node_laws.proofs.Allowed.{AllowedBy}
use Rattle.node_laws.proofs.ValidLemmas.{valid_after}
use Rattle.end_laws.specs.Moments.{Moment, first_moment}
use Rattle.end_laws.specs.TwoNodes.{PairsTwo, PairsTwoNodes}
use Rattle.end_laws.proofs.Allowed.{May, Linked}
use Rattle.end_laws.proofs.CommandLeads.{connect-leads, disconnect-leads, rate-leads, lose-leads}
use Rattle.end_laws.proofs.CommandLeads.{repeat-leads, tick-leads, work-leads, made-leads}
use Rattle.end_laws.proofs.CommandLeads.{call-leads, poll-leads, arrive-leads, restart-leads, settles-lead}
use Rattle.end_laws.proofs.Courses.{latest, Course, over, pairs, client_fact, server_fact, paired}
use Rattle.end_laws.proofs.Leads.{NodeFits, Fits, Leads, Leading, leads-none, leads-append, life-kept, step-stays}
use Rattle.end_laws.proofs.ListLemmas.{Placed, set-placed, length-slice_set}
use Rattle.end_laws.proofs.SendsLaw.{right-client, right-served}

-- a refusal leaves all as it is
pub record IsRefusal (e : Event) : Type 0 where
  pub may : (hand : Option InFlight) (l : Lists) → May hand l e [] []
  pub linked : (before : Option Fact) (l : Lists) → Linked before l e []
  pub lawful : (l : Lists) → AllowedBy l e [] []
  pub same : (clock : ℕ) (l : Lists) → l ≡ after clock l (plain l.me e)
  pub unsent : (me : ℕ) (c : List InFlight) → flight_after_all c (plain me e ∷ []) ≡ c
  pub unworked : (me : ℕ) (c : List WorkedJob) → worked_after_all c (plain me e ∷ []) ≡ c

refusal-by : (a b : Bool) (x y z : ℕ) (e : Event)
    → cond a (Some NconnectNumbers) (cond b (Some (NconnectRing x y z)) None) ≡ Some e → IsRefusal e
refusal-by true b x y z e h =
    let same : e ≡ NconnectNumbers =
    cc in rw same (record {
      may = λ hand l. tt;
      linked = λ before l. tt;
      lawful = λ l. tt;
      same = λ clock l. refl;
      unsent = λ me c. refl;
      unworked = λ me c. refl;
    })
refusal-by false true x y z e h =
    let same : e ≡ NconnectRing x y z =
    cc in rw same (record {
      may = λ hand l. tt;
      linked = λ before l. tt;
      lawful = λ l. tt;
      same = λ clock l. refl;
      unsent = λ me c. refl;
      unworked = λ me c. refl;
    })
refusal-by false false x y z e h = cc

is-refusal : (credits : ℕ) (l : Lists) (e : Event) → pair_refusal credits l ≡ Some e → IsRefusal e
is-refusal credits l e h =
    refusal-by (clients_spent l || servers_spent l) (nat_lt l.room (shares l + credits)) (shares l) credits l.room e h

refused-leads : (s : Stage) (w : Moment) (n : ℕ) (before : Timed) (e : Event) (x : List Fact)
    (t : Stage) → Fits s w → slice_get s.nodes n ≡ Some before → IsRefusal e
    → x ≡ plain before.lists.me e ∷ [] → t ≡ s → Leads w x t
refused-leads s w n before e x t f is r facts left =
    let fit = f.nodes n before is in
    rw facts (step-stays s w n before (plain before.lists.me e ∷ []) t f (record {
      is_node = is;
      walks = (record { who = refl; may = r.may w.hand before.lists }, r.linked (latest w.past) before.lists, tt);
      lawful = (r.lawful before.lists, tt);
      lists = r.same s.clock before.lists;
      late = fit.late;
      right = fit.right;
    }) (r.unsent before.lists.me s.flight) (r.unworked before.lists.me s.worked) left)

-- what isn't refused fits into the ring
room-by : (a b : Bool) (x y z : ℕ)
    → cond a (Some NconnectNumbers) (cond b (Some (NconnectRing x y z)) None) ≡ None → b ≡ false
room-by true b x y z h = cc
room-by false true x y z h = cc
room-by false false x y z h = refl

has-room : (credits : ℕ) (l : Lists) → pair_refusal credits l ≡ None → shares l + credits ≤ l.room
has-room credits l h =
    ltb-false l.room (shares l + credits) (room-by (clients_spent l || servers_spent l)
    (nat_lt l.room (shares l + credits)) (shares l) credits l.room h)

-- both ends are made
ends-lead : (a b credits : ℕ) (client server : Timed) (s : Stage) (w : Moment) (x : List Fact)
    (t : Stage) → Fits s w → (a ≡ b → ⊥) → slice_get s.nodes a ≡ Some client
    → slice_get s.nodes b ≡ Some server → pair_refusal credits client.lists ≡ None
    → pair_refusal credits server.lists ≡ None → PairsEnds a b credits client server s x t
    → Leads w x t
ends-lead a b credits client server s w x t f two is_client is_server fits_client fits_server h =
    let cf = f.nodes a client is_client in
    let sf = f.nodes b server is_server in
    let c = client.lists in
    let v = server.lists in
    let one : Fact = client_fact a b credits c v in
    let other : Fact = server_fact a b credits c v in
    let is_one : h.at_client ≡ one =
    h.for_client ∙ ap (λ (n : ℕ). plain n
    (PairedClient (length c.clients) b v.server_numbers credits v.life)) cf.me in
    let is_other : h.at_server ≡ other =
    h.for_server ∙ ap (λ (n : ℕ). plain n
    (PairedServer v.server_numbers a (length c.clients) credits c.life)) sf.me in
    let u = paired w a b credits c v in
    let past1 : List Lived = told w.past one ∷ w.past in
    let lives : (j : ℕ) → life_by j u.past ≡ life_by j w.past =
    λ j. life-kept j (told past1 other) past1 refl ∙ life-kept j (told w.past one) w.past refl in
    let nodes1 : List Lists = slice_set w.nodes a (after w.clock c one) in
    let nodes2 : List Lists = slice_set nodes1 b (after w.clock v other) in
    let first : changed w.clock (slice_get w.nodes a) a w.nodes one ≡ nodes1 =
    ap (λ (o : Option Lists). changed w.clock o a w.nodes one) cf.is_node in
    let at_b : slice_get nodes1 b ≡ Some v =
    set-other w.nodes a b (after w.clock c one) (λ e. two (sym e)) ∙ sf.is_node in
    let all : u.nodes ≡ nodes2 =
    ap (λ (ns : List Lists). changed w.clock (slice_get ns b) b ns other) first
    ∙ ap (λ (o : Option Lists). changed w.clock o b nodes1 other) at_b in
    let stage1 : List Timed = slice_set s.nodes a (noted client one) in
    let at_stage : slice_get stage1 b ≡ Some server =
    set-other s.nodes a b (noted client one) (λ e. two (sym e)) ∙ is_server in
    let keep : (n : ℕ) (z : Timed) → (n ≡ a → ⊥) → slice_get s.nodes n ≡ Some z → NodeFits s.clock nodes1 u.past n z = λ n z ne is. let k = f.nodes n z is in record { is_node = set-other w.nodes a n (after w.clock c one) ne ∙ k.is_node; me = k.me; life = k.life ∙ sym (lives n); late = k.late; right = k.right; valid = k.valid } in
    let here : NodeFits s.clock nodes1 u.past a (noted client one) =
    record {
      is_node = set-here w.nodes a c (after w.clock c one) cf.is_node;
      me = cf.me;
      life = cf.life ∙ sym (lives a);
      late = cf.late;
      right = right-client client.clock a b credits c v cf.right;
      valid =
          valid_after client.clock c one cf.valid
          (record { numbered = refl; room = has-room credits c fits_client });
    } in
    let placed1 : Placed (NodeFits s.clock nodes1 u.past) stage1 =
    set-placed (NodeFits s.clock nodes1 u.past) s.nodes a client (noted client one) is_client here
    keep in
    let keep2 : (n : ℕ) (z : Timed) → (n ≡ b → ⊥) → slice_get stage1 n ≡ Some z → NodeFits s.clock nodes2 u.past n z = λ n z ne is. let k = placed1 n z is in record { is_node = set-other nodes1 b n (after w.clock v other) ne ∙ k.is_node; me = k.me; life = k.life; late = k.late; right = k.right; valid = k.valid } in
    let here2 : NodeFits s.clock nodes2 u.past b (noted server other) =
    record {
      is_node = set-here nodes1 b v (after w.clock v other) at_b;
      me = sf.me;
      life = sf.life ∙ sym (lives b);
      late = sf.late;
      right = right-served server.clock b a credits c v sf.right;
      valid =
          valid_after server.clock v other sf.valid
          (record { numbered = refl; room = has-room credits v fits_server });
    } in
    let placed2 : Placed (NodeFits s.clock nodes2 u.past) (slice_set stage1 b (noted server other)) =
    set-placed (NodeFits s.clock nodes2 u.past) stage1 b server (noted server other) at_stage here2
    keep2 in
    let facts : x ≡ one ∷ other ∷ [] =
    h.facts ∙ (ap (λ (z : Fact). z ∷ h.at_server ∷ []) is_one
    ∙ ap (λ (z : Fact). one ∷ z ∷ []) is_other) in
    let left : t ≡ record s { nodes = slice_set stage1 b (noted server other) } =
    h.left ∙ (ap (λ (z : Fact). record s {
      nodes = slice_set (slice_set s.nodes a (noted client z)) b (noted server h.at_server);
    }) is_one ∙ ap (λ (z : Fact). record s { nodes = slice_set stage1 b (noted server z) })
    is_other) in
    let sizes : length u.nodes ≡ length (slice_set stage1 b (noted server other)) =
    ap length all ∙ (length-slice_set nodes1 b (after w.clock v other)
    ∙ (length-slice_set w.nodes a (after w.clock c one)
    ∙ (f.size ∙ sym (length-slice_set stage1 b (noted server other)
    ∙ length-slice_set s.nodes a (noted client one))))) in
    let fits : Fits (record s { nodes = slice_set stage1 b (noted server other) }) u = record {
      clock = f.clock;
      flight = f.flight;
      size = sizes;
      nodes = subst (λ (ns : List Lists). Placed (NodeFits s.clock ns u.past)
          (slice_set stage1 b (noted server other))) (sym all) placed2;
      unborn = λ j le. lives j ∙ f.unborn j (subst (λ (k : ℕ). k ≤ j)
          (length-slice_set stage1 b (noted server other) ∙ length-slice_set s.nodes a (noted client one)) le);
    } in
    rw (facts, left) (record {
      end = u;
      course = pairs w a b credits c v [] u (record {
        is_client = cf.is_node;
        is_server = sf.is_node;
        two = two;
        client_life = cf.life;
        server_life = sf.life;
        fits_client = has-room credits c fits_client;
        fits_server =
            has-room credits v fits_server;
      }) (over u);
      fits = fits;
    })

pairs-by : (a b credits : ℕ) (client server : Timed) (e g : Option Event) (s : Stage) (w : Moment)
    (x : List Fact) (t : Stage) → Fits s w → (a ≡ b → ⊥) → slice_get s.nodes a ≡ Some client
    → slice_get s.nodes b ≡ Some server → pair_refusal credits client.lists ≡ e
    → pair_refusal credits server.lists ≡ g → PairsBy e g a b credits client server s x t
    → Leads w x t
pairs-by a b credits client server (Some e) g s w x t f two c v r q h =
    refused-leads s w a client e x t f c (is-refusal credits client.lists e r) h.0 h.1
pairs-by a b credits client server None (Some e) s w x t f two c v r q h =
    refused-leads s w b server e x t f v (is-refusal credits server.lists e q) h.0 h.1
pairs-by a b credits client server None None s w x t f two c v r q h =
    ends-lead a b credits client server s w x t f two c v r q h

pairs-lead : (a b credits : ℕ) → (a ≡ b → ⊥) → Leading (Pairs a b credits)
pairs-lead a b credits two s w x t f h =
    pairs-by a b credits h.client h.server _ _ s w x t f two h.is_client h.is_server refl refl h.pairs

pub does-lead : (c : Command) → PairsTwo c → Leading (Does c)
does-lead (Node ring) p = made-leads ring
does-lead (Pair a b credits) p = pairs-lead a b credits p
does-lead (Connect n peer credits) p = connect-leads n peer credits
does-lead (Disconnect n session) p = disconnect-leads n session
does-lead (Rate n session rate) p = rate-leads n session rate
does-lead (Call n session y ask room) p = call-leads n session y (ask_bytes ask) room
does-lead (Poll n) p = poll-leads n
does-lead (Arrive i) p = arrive-leads i
does-lead (Lose i) p = lose-leads i
does-lead (Repeat i) p = repeat-leads i
does-lead (Tick by) p = tick-leads by
does-lead (Work n i) p = work-leads n i
does-lead (Settle rounds) p = settles-lead rounds
does-lead (Restart n) p = restart-leads n

pub follows-lead : (lines : List Line) → PairsTwoNodes lines → Leading (FollowsFrom lines)
follows-lead [] p s w h t f d = leads-none s t w h f d.0 d.1
follows-lead (line ∷ lines) p s w h t f d =
    let l = does-lead line.command p.0 s w d.group d.between f d.does in
    rw d.joined (leads-append d.between w d.group d.rest t l
    (follows-lead lines p.1 d.between l.end d.rest t l.fits d.follows))

pub empty-fits : Fits empty_stage first_moment
empty-fits = record { clock = refl; flight = refl; size = refl; nodes = λ j z h. cc; unborn = λ n le. refl }

-- a history that follows a script is one that the rules make
pub record IsCourse (h : List Fact) : Type 0 where
  pub end : Moment
  pub course : Course false first_moment h end

pub follows-course : (lines : List Line) (h : List Fact) → PairsTwoNodes lines → Follows lines h
    → IsCourse h
follows-course lines h p d =
    let l = follows-lead lines p empty_stage first_moment h d.0 empty-fits d.1.commands in
    record { end = l.end; course = l.course }
