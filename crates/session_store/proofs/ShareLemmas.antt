-- The credits of the live sessions, as they are counted: each change of a store keeps the count, or
-- changes it by the credits of one session.
use Rattle.std.proofs.Common.{◌≡◌, ℕ, zero, suc, ◌+◌, ◌*◌, ◌-◌, ◌≤◌, ◌<◌, ◌^◌, Bool, true, Option}
use Rattle.std.proofs.Common.{Some, None, List, [], ◌∷◌, ◌++◌, length, refl, sym, ap, subst, ◌∙◌}
use Rattle.std.proofs.Common.{arith}
use Rattle.std.specs.Prelude.{IfSome, OnErr, OnOk, Result, Ok, Err, map, slice_get}
use Rattle.std.specs.Prelude.{slice_set, sum, sum_by}
use Rattle.std.specs.List.{AllByRecursion, remove}
use Rattle.std.proofs.lemmas.List.{length-map, map_push}
use Rattle.std.proofs.lemmas.List.Sums.{sum-map, sum_by-append, sum_by-cons}
use Rattle.rpc_base.specs.declared.limits.TheConstants.{MOST_CREDITS}
use Rattle.rpc_base.specs.declared.owner.Owner.{Owner}
use Rattle.rpc_base.specs.declared.owner.Owner.TheVariants.{Ask, Reply, Control}
use Rattle.rpc_base.specs.declared.state.SessionState.{SessionState}
use Rattle.rpc_base.proofs.FirstLemmas.{all-push}
use Rattle.buffer_pool.specs.Pool.{Pool}
use Rattle.packet_header.specs.declared.packet.MessageHeader.{MessageHeader}
use Rattle.packet_rings.specs.Values.{EntryValue}
use Rattle.rpc_laws.specs.Groups.{live_credits}
use Rattle.rpc_base.specs.Tables.{at_first}
use Rattle.rpc_base.proofs.FirstLemmas.{all-each}
use Rattle.rpc_base.proofs.PlaceLemmas.{all-at, get-map}
use Rattle.rpc_laws.specs.Requests.{answered, given, is_request, is_server, took_packet}
use Rattle.rpc_laws.specs.Sessions.{begins, clients_after, ends, has_call, is_client, is_live}
use Rattle.rpc_laws.specs.Sessions.{is_connected as takes_calls, posts, rolls, sends, takes}
use Rattle.rpc_laws.specs.declared.tables.Client.{Client}
use Rattle.rpc_laws.specs.declared.tables.Server.{Server}
use Rattle.node_laws.proofs.ImageLemmas.{map-hidden}
use Rattle.client_core.specs.Shown.{after_outcome, end_event, took}
use Rattle.client_core.specs.declared.outcome.Outcome.{Outcome}
use Rattle.client_core.specs.declared.outcome.Outcome.TheVariants.{Ok as EndedOk, TooSmall}
use Rattle.client_core.specs.declared.outcome.Outcome.TheVariants.{PeerLost}
use Rattle.client_core.specs.declared.outcome.Reply.{Reply as Told}
use Rattle.client_core.specs.declared.outcome.Reply.TheVariants.{Took, Ended, Dropped}
use Rattle.client_core.specs.Session.{Session, new_session}
use Rattle.credit_book.specs.Credits.{limit_of}
use Rattle.packet_rings.specs.Rings.{Ring}
use Rattle.pacing_wheel.specs.Wheel.{Wheel}
use Rattle.server_core.specs.Session.{Session as Serving}
use Rattle.server_core.specs.Steps.{Steps, took as took_server}
use Rattle.server_core.specs.declared.step.Step.{Step}
use Rattle.server_core.specs.declared.step.Step.TheVariants.{Took as TookStep, Again, Ran, Give}
use Rattle.server_core.specs.declared.step.Step.TheVariants.{Dropped as DroppedStep}
use Rattle.server_core.specs.Shown.{shown as shown_server}
use Rattle.session_ends.specs.declared.side.Side.{Side}
use Rattle.session_ends.specs.declared.stage.Stage.{Stage}
use Rattle.session_ends.specs.declared.stage.Stage.TheVariants.{Connecting, Connected, Closing}
use Rattle.session_ends.specs.declared.stage.Stage.TheVariants.{Closed, Failed, Broken}
use Rattle.session_store.specs.Changes.{BeginsAt, ChangesAt, HasRequest, IsConnected, IsInState}
use Rattle.session_store.specs.Changes.{has_request, LosesAt, PostsAt, RollsAt}
use Rattle.session_store.specs.Effects.{ServerFinishes}
use Rattle.session_ends.specs.Effects.{ServerGone}
use Rattle.session_store.specs.Ends.{shown_end}
use Rattle.session_store.specs.Hearing.{RepliesAt}
use Rattle.session_store.specs.Queue.{clients_sent}
use Rattle.session_store.specs.Joined.{shown_with}
use Rattle.session_store.specs.Sides.{CountsShares, Shown, shown_side}
use Rattle.session_ends.specs.Sides.{Rises, numbers_in}
use Rattle.session_ends.specs.Stages.{asked}
use Rattle.session_ends.proofs.ListLemmas.{all-removed, map-removed, sum-less, all-from, all-set}
use Rattle.session_ends.proofs.ListLemmas.{map-kept, map-set, sum-one, sum-set}

-- lists with the same numbers
module _ {A : Type 0} (g : A → ℕ) where
  sum-same : (xs ys : List A) → map g ys ≡ map g xs → sum_by g ys ≡ sum_by g xs
  sum-same xs ys e = sym (sum-map g ys) ∙ ap sum e ∙ sum-map g xs

  all-same : (xs ys : List A) → map g ys ≡ map g xs
      → AllByRecursion (λ x. g x ≤ MOST_CREDITS) xs → AllByRecursion (λ x. g x ≤ MOST_CREDITS) ys
  all-same [] [] e all = tt
  all-same [] (y ∷ ys) e all = cc
  all-same (x ∷ xs) [] e all = cc
  all-same (x ∷ xs) (y ∷ ys) e all =
      let first : g y ≡ g x = cc in
      let rest : map g ys ≡ map g xs = cc in
      (subst (λ n. n ≤ MOST_CREDITS) (sym first) all.0, all-same xs ys rest all.1)

  few-sum : (xs : List A) → AllByRecursion (λ x. g x ≤ MOST_CREDITS) xs
      → sum_by g xs ≤ MOST_CREDITS * length xs
  few-sum [] all = omega arith
  few-sum (x ∷ xs) all = omega (arith, sum_by-cons g x xs, all.0, few-sum xs all.1)

-- a session's credits stay where its calls change
pub changes-kept : (i : ℕ) (f : Client → Client) (old new : List Client)
    → ((x : Client) → live_credits (f x) ≡ live_credits x) → ChangesAt i f old new
    → map live_credits new ≡ map live_credits old
changes-kept i f old new same h = ap (map live_credits) h.changed
    ∙ map-kept live_credits old i h.client (f h.client) h.place (same h.client)

pub asks-kept : {E : Type 0} (i : ℕ) (f : Client → Client) (old new : List Client)
    (r : Result (Unit {0}) E) → ((x : Client) → live_credits (f x) ≡ live_credits x)
    → OnOk r (ChangesAt i f old new) → OnErr r (new ≡ old)
    → map live_credits new ≡ map live_credits old
asks-kept i f old new (Ok u) same h left = changes-kept i f old new same h
asks-kept i f old new (Err e) same h left = ap (map live_credits) left

pub unchanged-shown : {E : Type 0} (pool : Pool) (sides now : List Side)
    (r : Result (Unit {0}) E) → OnErr r (now ≡ sides)
    → OnErr r (map (shown_side pool) now ≡ map (shown_side pool) sides)
unchanged-shown pool sides now (Ok u) left = tt
unchanged-shown pool sides now (Err e) left = ap (map (shown_side pool)) left

pub begins-kept : (i : ℕ) (o : Option (ℕ × ℕ)) (old new : List Client) → BeginsAt i o old new
    → map live_credits new ≡ map live_credits old
begins-kept i None old new h = ap (map live_credits) h.1
begins-kept i (Some b) old new h = changes-kept i (begins b.0 b.1) old new (λ x. refl) h.1

pub posts-kept : (i : ℕ) (o : Option (ℕ × ℕ)) (old new : List Client) → PostsAt i o old new
    → map live_credits new ≡ map live_credits old
posts-kept i None old new h = ap (map live_credits) h.1
posts-kept i (Some p) old new h = ap (map live_credits) h.changed
    ∙ map-kept live_credits old i h.client (posts p.0 p.1 h.client) h.place refl

pub rolls-kept : (i number : ℕ) (old new : List Client) → RollsAt i number old new
    → map live_credits new ≡ map live_credits old
rolls-kept i number old new h = ap (map live_credits) h.changed
    ∙ map-kept live_credits old i h.client (rolls number h.progress.posted h.progress.got h.client)
    h.place refl

pub loses-kept : (i : ℕ) (o : Option ℕ) (old new : List Client) → LosesAt i o old new
    → map live_credits new ≡ map live_credits old
loses-kept i None old new h = ap (map live_credits) h.1
loses-kept i (Some n) old new h = changes-kept i (ends n) old new (λ x. refl) h.1

pub sends-kept : (now : ℕ) (o : Owner) (k : ℕ) (xs : List Client)
    → map live_credits (clients_sent now o k xs) ≡ map live_credits xs
sends-kept now (Ask i r) k xs =
    map-hidden live_credits (is_client i) (sends now r k) (λ x. refl) xs
sends-kept now (Reply t r) k xs = refl
sends-kept now Control k xs = refl

ended-kept : (clock call : ℕ) (o : Outcome) (xs : List Client)
    → map live_credits (clients_after clock (end_event call o) [] None [] xs)
    ≡ map live_credits xs
ended-kept clock call EndedOk xs =
    map-hidden live_credits (has_call call) (ends call) (λ x. refl) xs
ended-kept clock call (TooSmall size) xs =
    map-hidden live_credits (has_call call) (ends call) (λ x. refl) xs
ended-kept clock call PeerLost xs =
    map-hidden live_credits (has_call call) (ends call) (λ x. refl) xs

took-kept : (clock : ℕ) (h : MessageHeader) (body : List ℕ) (x : Client)
    → map live_credits (took clock h body x) ≡ live_credits x ∷ []
took-kept clock h body x =
    map-hidden live_credits (is_client x.way.number) (takes clock h.request (Some h) body)
    (λ x. refl) (x ∷ [])

outcome-kept : (clock : ℕ) (r : Told) (h : MessageHeader) (body : List ℕ) (x : Client)
    → map live_credits (after_outcome clock r h body x) ≡ live_credits x ∷ []
outcome-kept clock Took h body x = took-kept clock h body x
outcome-kept clock (Ended d) h body x =
    ended-kept clock d.call d.outcome (took clock h body x) ∙ took-kept clock h body x
outcome-kept clock (Dropped why) h body x = refl

pub replies-kept : (i clock peer : ℕ) (h : MessageHeader) (body : List ℕ) (is_waiting : Bool)
    (r : Told) (old new : List Client) → RepliesAt i clock peer h body is_waiting r old new
    → map live_credits new ≡ map live_credits old
replies-kept i clock peer h body is_waiting r old new e =
    let list : live_credits e.later ∷ [] ≡ live_credits e.client ∷ [] =
    ap (map live_credits) (sym e.step) ∙ outcome-kept clock r h body e.client in
    let same : live_credits e.later ≡ live_credits e.client = cc in
    ap (map live_credits) e.changed
    ∙ map-kept live_credits old i e.client e.later e.at same

-- what is shown in another pool has the same credits
module _ (pool after : Pool) where
  side-anew : (stage : Stage) (s : Side) → s.stage ≡ stage
      → live_credits (shown_side after s) ≡ live_credits (shown_side pool s)
  side-anew (Connecting n t) s e = rw e refl
  side-anew Connected s e = rw e refl
  side-anew (Closing n t) s e = rw e refl
  side-anew Closed s e = rw e refl
  side-anew Failed s e = rw e refl
  side-anew Broken s e = rw e refl

  clients-anew : (sides : List Side)
      → map live_credits (map (shown_side after) sides)
      ≡ map live_credits (map (shown_side pool) sides)
  clients-anew [] = refl
  clients-anew (s ∷ sides) = rw (side-anew s.stage s refl, clients-anew sides) refl

servers-seen : (pool : Pool) (servers : List Serving)
    → map (λ (v : Server). v.credits) (map (shown_server pool) servers)
    ≡ map (λ (v : Serving). v.credits) servers
servers-seen pool [] = refl
servers-seen pool (v ∷ servers) = ap (λ ns. v.credits ∷ ns) (servers-seen pool servers)

-- so the count stays where each session keeps its credits
pub counts-kept : (n : ℕ) (clients now : List Client) (servers later : List Server)
    → map live_credits now ≡ map live_credits clients
    → map (λ v. v.credits) later ≡ map (λ v. v.credits) servers
    → CountsShares n clients servers → CountsShares n now later
counts-kept n clients now servers later same same_served h = record {
  all = rw (
    sum-same live_credits clients now same,
    sum-same (λ (v : Server). v.credits) servers later same_served,
  ) h.all;
  few = all-same live_credits clients now same h.few;
  few_served = all-same (λ (v : Server). v.credits) servers later same_served h.few_served;
}

pub clients-kept : (n : ℕ) (pool after : Pool) (sides now : List Side) (servers : List Serving)
    → map live_credits (map (shown_side after) now) ≡ map live_credits (map (shown_side pool) sides)
    → CountsShares n (map (shown_side pool) sides) (map (shown_server pool) servers)
    → CountsShares n (map (shown_side after) now) (map (shown_server after) servers)
clients-kept n pool after sides now servers same h =
    counts-kept n (map (shown_side pool) sides) (map (shown_side after) now)
    (map (shown_server pool) servers) (map (shown_server after) servers) same
    (servers-seen after servers ∙ sym (servers-seen pool servers)) h

pub servers-kept : (n : ℕ) (pool after : Pool) (sides : List Side) (servers now : List Serving)
    → map (λ (v : Serving). v.credits) now ≡ map (λ (v : Serving). v.credits) servers
    → CountsShares n (map (shown_side pool) sides) (map (shown_server pool) servers)
    → CountsShares n (map (shown_side after) sides) (map (shown_server after) now)
servers-kept n pool after sides servers now same h =
    counts-kept n (map (shown_side pool) sides) (map (shown_side after) sides)
    (map (shown_server pool) servers) (map (shown_server after) now)
    (clients-anew pool after sides)
    (servers-seen after now ∙ same ∙ sym (servers-seen pool servers)) h

-- the answer to a packet, and the end of a job, leave a server session's credits
pub step-kept : (i : ℕ) (servers now : List Serving) (v w : Serving) → slice_get servers i ≡ Some v
    → now ≡ slice_set servers i w → w.credits ≡ v.credits
    → map (λ (x : Serving). x.credits) now ≡ map (λ (x : Serving). x.credits) servers
step-kept i servers now v w at changed same =
    ap (map (λ (x : Serving). x.credits)) changed
    ∙ map-kept (λ (x : Serving). x.credits) servers i v w at same

one-credits : (w : Server) (n : ℕ) → w.credits ∷ [] ≡ n ∷ [] → w.credits ≡ n
one-credits w n e = cc

packet-credits : (h : MessageHeader) (body : List ℕ) (v : Server)
    → map (λ (x : Server). x.credits) (took_server h body v) ≡ v.credits ∷ []
packet-credits h body v =
    map-hidden (λ (x : Server). x.credits) (is_server v.way.number)
    (λ x. record x { slots = took_packet h.request (Some h) body x.slots }) (λ x. refl) (v ∷ [])

pub steps-credits : (step : Step) (answer : List ℕ) (h : MessageHeader) (body : List ℕ)
    (v w : Server) → Steps step answer h body v w → w.credits ≡ v.credits
steps-credits (TookStep reply) answer h body v w e =
    one-credits w v.credits (ap (map (λ (x : Server). x.credits)) (sym e) ∙ packet-credits h body v)
steps-credits (Again reply) answer h body v w e = ap (λ (x : Server). x.credits) e
steps-credits (Ran reply) answer h body v w e =
    one-credits w v.credits (ap (map (λ (x : Server). x.credits)) (sym e)
    ∙ map-hidden (λ (x : Server). x.credits) (is_server v.way.number)
    (λ x. record x { slots = at_first (is_request h.request) (answered answer) x.slots })
    (λ x. refl) (took_server h body v) ∙ packet-credits h body v)
steps-credits (Give parcel) answer h body v w e =
    one-credits w v.credits (ap (map (λ (x : Server). x.credits)) (sym e)
    ∙ map-hidden (λ (x : Server). x.credits) (is_server v.way.number)
    (λ x. record x { slots = at_first (is_request h.request) given x.slots })
    (λ x. refl) (took_server h body v) ∙ packet-credits h body v)
steps-credits (DroppedStep why) answer h body v w e = ap (λ (x : Server). x.credits) e

pub finished-kept : (i r : ℕ) (bytes : List ℕ) (o : Option EntryValue) (servers now : List Serving)
    (pool after : Pool) → ServerFinishes i r bytes o servers now pool after
    → map (λ (x : Serving). x.credits) now ≡ map (λ (x : Serving). x.credits) servers
finished-kept i r bytes None servers now pool after h =
    step-kept i servers now h.server h.later h.at h.changed
    (ap (λ (x : Serving). x.credits) h.step.left.session)
finished-kept i r bytes (Some e) servers now pool after h =
    step-kept i servers now h.server h.later h.at h.changed
    (ap (λ (x : Server). x.credits) h.step.finished.shown_is)

-- so does a reply that leaves the queue
pub gone-kept : (number : ℕ) (e : EntryValue) (servers now : List Serving) (pool after : Pool)
    → ServerGone number e servers now pool after
    → map (λ (x : Serving). x.credits) now ≡ map (λ (x : Serving). x.credits) servers
gone-kept number e servers now pool after h =
    step-kept h.place servers now h.server h.later h.at h.changed
    (ap (λ (x : Server). x.credits) h.step.same)

-- what a client session counts while it is live
shares-at : (stage : Stage) (pool : Pool) (peer : ℕ) (s : Session)
    → is_live (shown_end stage pool peer s).state ≡ true
    → live_credits (shown_end stage pool peer s) ≡ limit_of s.credits
shares-at (Connecting n t) pool peer s e = refl
shares-at Connected pool peer s e = refl
shares-at (Closing n t) pool peer s e = refl
shares-at Closed pool peer s e = cc
shares-at Failed pool peer s e = cc
shares-at Broken pool peer s e = cc

asked-at : (stage : Stage) (pool : Pool) (peer clock : ℕ) (s : Session)
    → is_live (shown_end stage pool peer s).state ≡ true
    → live_credits (shown_end (asked clock stage) pool peer s) ≡ limit_of s.credits
asked-at (Connecting n t) pool peer clock s e = refl
asked-at Connected pool peer clock s e = refl
asked-at (Closing n t) pool peer clock s e = refl
asked-at Closed pool peer clock s e = cc
asked-at Failed pool peer clock s e = cc
asked-at Broken pool peer clock s e = cc

-- sessions that are live
pub live-in : (state : SessionState) → is_live state ≡ true → (o : Option Client)
    → IsInState state o → IfSome o (λ x. is_live x.state ≡ true)
live-in state live None h = tt
live-in state live (Some x) h = ap is_live h ∙ live

live-taking : (state : SessionState) → takes_calls state ≡ true → is_live state ≡ true
live-taking SessionState.Connecting e = refl
live-taking SessionState.Connected e = refl
live-taking SessionState.Spent e = refl
live-taking SessionState.Closing e = refl
live-taking SessionState.Closed e = cc
live-taking SessionState.Failed e = cc
live-taking SessionState.Broken e = cc
live-taking SessionState.Unknown e = cc

pub live-connected : (o : Option Client) → IsConnected o → IfSome o (λ x. is_live x.state ≡ true)
live-connected None h = tt
live-connected (Some x) h = live-taking x.state h

live-asking-in : (state : SessionState) → has_request state ≡ true → is_live state ≡ true
live-asking-in SessionState.Connecting some = refl
live-asking-in SessionState.Connected some = cc
live-asking-in SessionState.Spent some = cc
live-asking-in SessionState.Closing some = refl
live-asking-in SessionState.Closed some = cc
live-asking-in SessionState.Failed some = cc
live-asking-in SessionState.Broken some = cc
live-asking-in SessionState.Unknown some = cc

pub live-asking : (o : Option Client) → HasRequest o → IfSome o (λ x. is_live x.state ≡ true)
live-asking None h = tt
live-asking (Some x) h = live-asking-in x.state h

-- a client session's stage changes: while it is live its credits are part of the count, and then it
-- gives them back
module _ (n : ℕ) (pool : Pool) (sides : List Side) (servers : List Serving)
    (h : CountsShares n (map (shown_side pool) sides) (map (shown_server pool) servers)) (i : ℕ)
    (side : Side) (at : slice_get sides i ≡ Some side) (tx : Ring EntryValue) (paced : Wheel)
    (seen : Shown) (view : shown_with pool sides servers tx paced ≡ seen)
    (live : IfSome (slice_get seen.clients i) (λ x. is_live x.state ≡ true)) where
  shown-at : slice_get (map (shown_side pool) sides) i ≡ Some (shown_side pool side)
  shown-at = get-map (shown_side pool) sides i side at

  share-own : live_credits (shown_side pool side) ≡ limit_of side.session.credits
  share-own =
      let here : IfSome (slice_get (map (shown_side pool) sides) i) (λ x. is_live x.state ≡ true)
      = rw (← view) at live in
      let own : is_live (shown_side pool side).state ≡ true = rw shown-at at here in
      shares-at side.stage pool side.peer side.session own

  pub share-within : (k : ℕ) → k ≡ limit_of side.session.credits → k ≤ n
  share-within k is = omega (
    arith,
    is,
    h.all,
    sum-one live_credits (map (shown_side pool) sides) i (shown_side pool side) shown-at,
    share-own,
  )

  pub share-stays : (later : Side)
      → live_credits (shown_side pool later) ≡ limit_of side.session.credits
      → CountsShares n (map (shown_side pool) (slice_set sides i later))
      (map (shown_server pool) servers)
  share-stays later same =
      let clients = map (shown_side pool) sides in
      let set : map (shown_side pool) (slice_set sides i later)
      ≡ slice_set clients i (shown_side pool later) =
      map-set (shown_side pool) (shown_side pool) sides i later (λ j x e other. refl) in
      clients-kept n pool pool sides (slice_set sides i later) servers
      (ap (map live_credits) set ∙ map-kept live_credits clients i (shown_side pool side)
      (shown_side pool later) shown-at (same ∙ sym share-own)) h

  pub share-asked : (clock : ℕ) (stage : Stage) → stage ≡ asked clock side.stage
      → CountsShares n (map (shown_side pool) (slice_set sides i (record side { stage = stage })))
      (map (shown_server pool) servers)
  share-asked clock stage is =
      let here : IfSome (slice_get (map (shown_side pool) sides) i) (λ x. is_live x.state ≡ true)
      = rw (← view) at live in
      let own : is_live (shown_side pool side).state ≡ true = rw shown-at at here in
      rw is (share-stays (record side { stage = asked clock side.stage })
      (asked-at side.stage pool side.peer clock side.session own))

  pub share-ended : (k : ℕ) → k ≡ limit_of side.session.credits → (later : Side)
      → live_credits (shown_side pool later) ≡ 0
      → CountsShares (n - k) (map (shown_side pool) (slice_set sides i later))
      (map (shown_server pool) servers)
  share-ended k is later ended =
      let clients = map (shown_side pool) sides in
      let set : map (shown_side pool) (slice_set sides i later)
      ≡ slice_set clients i (shown_side pool later) =
      map-set (shown_side pool) (shown_side pool) sides i later (λ j x e other. refl) in
      rw set (record {
        all = omega (
          arith,
          is,
          h.all,
          sum-set live_credits clients i (shown_side pool side) (shown_side pool later) shown-at,
          share-own,
          ended,
        );
        few = all-set (λ x. live_credits x ≤ MOST_CREDITS) clients i (shown_side pool later)
            (omega (arith, ended))
            (λ j x e other. all-at (λ y. live_credits y ≤ MOST_CREDITS) clients j x h.few e);
        few_served = h.few_served;
      })

-- so does a server session that ends
module _ (n : ℕ) (pool after : Pool) (sides : List Side) (servers : List Serving)
    (h : CountsShares n (map (shown_side pool) sides) (map (shown_server pool) servers)) (i : ℕ)
    (v : Serving) (at : slice_get servers i ≡ Some v) where
  served-at : slice_get (map (shown_server pool) servers) i ≡ Some (shown_server pool v)
  served-at = get-map (shown_server pool) servers i v at

  pub server-within : (k : ℕ) → k ≡ v.credits → k ≤ n
  server-within k is = omega (
    arith,
    is,
    h.all,
    sum-one (λ (x : Server). x.credits) (map (shown_server pool) servers) i (shown_server pool v)
        served-at,
  )

  pub server-ended : (k : ℕ) → k ≡ v.credits → (now : List Serving) → now ≡ remove servers i
      → CountsShares (n - k) (map (shown_side after) sides) (map (shown_server after) now)
  server-ended k is now changed =
      let seen = map (shown_server pool) servers in
      let left : CountsShares (n - k) (map (shown_side pool) sides)
      (map (shown_server pool) (remove servers i)) =
      rw (map-removed (shown_server pool) servers i) (record {
        all = omega (
          arith,
          is,
          h.all,
          sum-less (λ (x : Server). x.credits) seen i (shown_server pool v) served-at,
        );
        few = h.few;
        few_served = all-removed (λ (x : Server). x.credits ≤ MOST_CREDITS) seen i h.few_served;
      }) in
      rw changed (servers-kept (n - k) pool after sides (remove servers i) (remove servers i)
      refl left)

-- a session more is counted
module _ (n : ℕ) (pool : Pool) (sides : List Side) (servers : List Serving)
    (h : CountsShares n (map (shown_side pool) sides) (map (shown_server pool) servers))
    (tx : Ring EntryValue) (paced : Wheel) (seen : Shown)
    (view : shown_with pool sides servers tx paced ≡ seen) (m credits : ℕ)
    (is : m ≡ sum_by live_credits seen.clients + sum_by (λ v. v.credits) seen.servers + credits)
    (most : credits ≤ MOST_CREDITS) where
  share-more : m ≡ n + credits
  share-more =
      let here : m ≡ sum_by live_credits (map (shown_side pool) sides)
      + sum_by (λ v. v.credits) (map (shown_server pool) servers) + credits = rw (← view) at is in
      omega (arith, here, h.all)

  pub client-added : (s : Side) → live_credits (shown_side pool s) ≡ credits
      → CountsShares m (map (shown_side pool) (sides ++ s ∷ [])) (map (shown_server pool) servers)
  client-added s own =
      rw (map_push (shown_side pool) sides s) (record {
        all = omega (
          arith,
          h.all,
          share-more,
          sum_by-append live_credits (map (shown_side pool) sides) (shown_side pool s ∷ []),
          sum_by-cons live_credits (shown_side pool s) [],
          own,
        );
        few = all-push (λ x. live_credits x ≤ MOST_CREDITS) (map (shown_side pool) sides)
            (shown_side pool s) h.few (omega (arith, own, most));
        few_served = h.few_served;
      })

  pub server-added : (v : Serving) → v.credits ≡ credits
      → CountsShares m (map (shown_side pool) sides) (map (shown_server pool) (servers ++ v ∷ []))
  server-added v own =
      rw (map_push (shown_server pool) servers v) (record {
        all = omega (
          arith,
          h.all,
          share-more,
          sum_by-append (λ (x : Server). x.credits) (map (shown_server pool) servers)
              (shown_server pool v ∷ []),
          sum_by-cons (λ (x : Server). x.credits) (shown_server pool v) [],
          own,
        );
        few = h.few;
        few_served = all-push (λ (x : Server). x.credits ≤ MOST_CREDITS)
            (map (shown_server pool) servers) (shown_server pool v) h.few_served
            (omega (arith, own, most));
      })

-- a session that is made counts all its credits
pub opened-share : (pool : Pool) (s : Side) (number server life credits clock sends : ℕ)
    → s.stage ≡ Connecting sends clock → s.session ≡ new_session number server life credits
    → live_credits (shown_side pool s) ≡ credits
opened-share pool s number server life credits clock sends stage session =
    rw (stage, session) (omega arith)

pub paired-share : (pool : Pool) (s : Side) (number server life credits : ℕ)
    → s.stage ≡ Connected → s.session ≡ new_session number server life credits
    → live_credits (shown_side pool s) ≡ credits
paired-share pool s number server life credits stage session = rw (stage, session) (omega arith)

-- numbers that rise are at least their places
rises-at : (n : ℕ) (ns : List ℕ) (j m : ℕ) → Rises ns → AllByRecursion (λ k. n ≤ k) ns
    → slice_get ns j ≡ Some m → n + j ≤ m
rises-at n [] j m up above e = cc
rises-at n (k ∷ ks) zero m up above e = let same : k ≡ m = cc in omega (arith, above.0, same)
rises-at n (k ∷ ks) (suc j) m up above e =
    let more = rises-at (n + 1) ks j m up.1
    (all-each (λ x. k < x) (λ x. n + 1 ≤ x) ks (λ x t. omega (arith, t, above.0)) up.0) e in
    omega (arith, more)

-- so they are few, and their credits fit
pub few-servers : (pool : Pool) (sides : List Side) (servers : List Serving)
    (tx : Ring EntryValue) (paced : Wheel) (seen : Shown)
    → shown_with pool sides servers tx paced ≡ seen → Rises (numbers_in servers) → (v : Serving)
    → slice_get servers (length servers - 1) ≡ Some v → v.number < 2 ^ 16
    → length seen.servers ≤ 2 ^ 16
few-servers pool sides servers tx paced seen view up v last below =
    let ns = numbers_in servers in
    let least = rises-at 0 ns (length servers - 1) v.number up
    (all-from (λ k. 0 ≤ k) ns (λ j x e. omega arith))
    (get-map (λ (x : Serving). x.number) servers (length servers - 1) v last) in
    omega (
      arith,
      least,
      below,
      ap (λ (x : Shown). length x.servers) view,
      length-map servers (shown_server pool),
    )

pub shares-few : (n : ℕ) (pool : Pool) (sides : List Side) (servers : List Serving)
    (tx : Ring EntryValue) (paced : Wheel) (seen : Shown)
    → shown_with pool sides servers tx paced ≡ seen
    → CountsShares n (map (shown_side pool) sides) (map (shown_server pool) servers)
    → length seen.clients ≤ 2 ^ 16 → length seen.servers ≤ 2 ^ 16 → n ≤ 2 ^ 25
shares-few n pool sides servers tx paced seen view h few few_served = omega (
  arith,
  h.all,
  few,
  few_served,
  ap (λ (x : Shown). length x.clients) view,
  ap (λ (x : Shown). length x.servers) view,
  few-sum live_credits (map (shown_side pool) sides) h.few,
  few-sum (λ (v : Server). v.credits) (map (shown_server pool) servers) h.few_served,
)
