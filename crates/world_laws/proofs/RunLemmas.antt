-- Each node of a stage is at the end of a run by its facts so far, and stays so at each step of a node.
use Rattle.std.proofs.Common.{◌≡◌, ◌+◌, ◌≤◌, ℕ, Bool, true, false, cond, List, [], ◌∷◌, ◌++◌}
use Rattle.std.proofs.Common.{length, Some, None, slice_get, refl, sym, ap, ◌∙◌, subst}
use Rattle.std.proofs.Common.{append_assoc, arith}
use Rattle.std.proofs.lemmas.List.{append-nil}
use Rattle.std.proofs.lemmas.Option.{slice_get_past}
use Rattle.std.specs.List.{list_any, slice_set}
use Rattle.end_laws.proofs.ListLemmas.{Placed, set-placed, add-placed, add-last}
use Rattle.network_model.specs.declared.stage.Stage.{Stage}
use Rattle.node_laws.proofs.LeadsLemmas.{valid-at}
use Rattle.node_laws.proofs.RunLaws.{group-lawful}
use Rattle.node_laws.proofs.ValidLemmas.{valid_new}
use Rattle.node_laws.specs.NodeRun.{Group}
use Rattle.node_laws.specs.Valid.{jobs_of, to_give, Valid}
use Rattle.rpc_base.specs.declared.event.Event.{Event}
use Rattle.rpc_base.specs.declared.event.Event.TheVariants.{Given, Made, Ran, Restarted}
use Rattle.rpc_base.specs.declared.fact.Fact.{Fact}
use Rattle.rpc_base.specs.declared.limits.Limits.{Limits}
use Rattle.rpc_laws.specs.declared.tables.Jobs.{Jobs}
use Rattle.rpc_laws.specs.declared.tables.Lists.{Lists}
use Rattle.rpc_laws.specs.declared.tables.Server.{Server}
use Rattle.rpc_laws.specs.declared.tables.Timed.{Timed}
use Rattle.rpc_laws.specs.declared.tables.WorkedJob.{WorkedJob}
use Rattle.rpc_laws.specs.Facts.{plain, of_net}
use Rattle.rpc_laws.specs.Jobs.{jobs_after}
use Rattle.rpc_laws.specs.Lives.{first_life}
use Rattle.rpc_laws.specs.NodeLists.{after, after_all, limits_of, new_node, restarted}
use Rattle.rpc_laws.specs.Steps.{Rel, Chain, none, more}
use Rattle.rpc_laws.specs.UsualLimits.{with_ring}
use Rattle.rpc_laws.specs.Working.{is_worked, worked_after_all}
use Rattle.rpc_outside.specs.PlainAnswer.{plain_mode}
use Rattle.sim_script.specs.FollowsScript.{AtNode, Makes, Restarts}
use Rattle.world_laws.specs.NodeFacts.{facts_of}
use Rattle.world_laws.proofs.FactLemmas.{AllAt, facts-other, facts-grow, facts-stay, set-none, add-none}
use Rattle.end_laws.proofs.OwnFacts.{Owned}
use Rattle.world_laws.proofs.WorkLemmas.{AllMay, AllNode, others-same, own-may, own-node}
use Rattle.world_laws.proofs.WorkLemmas.{times_worked, to_work, worked-append}
use Rattle.world_laws.proofs.WorkLemmas.{works-spend}

-- the groups of a run, one after another
abbrev pub Groups : Rel
Groups = Chain (Group plain_mode)

-- these facts are groups of one life of node n after another, from this life on, and lead to t. In
-- none of them was a job worked twice, nor may one be
pub data Lives (n : ℕ) (limits : Limits) (worked : List WorkedJob) : ℕ → List Fact → Timed → Type 0 where
  present : (life : ℕ) (g : List Fact) (t : Timed) → Groups (new_node n life limits) g t
      → t.lists.life ≡ life → limits_of t.lists ≡ limits
      → ((s r : ℕ) → times_worked s r g + to_work worked s r t.lists ≤ 1)
      → Lives n limits worked life g t
  past : (life : ℕ) (part rest : List Fact) (s t : Timed) → Groups (new_node n life limits) part s
      → ((i k : ℕ) → times_worked i k part ≤ 1)
      → Lives n limits worked (life + 1) rest t
      → Lives n limits worked life (part ++ plain n (Restarted (life + 1)) ∷ rest) t

-- these facts are node n's Made, and then its lives up to t
pub record IsLives (n : ℕ) (worked : List WorkedJob) (facts : List Fact) (t : Timed) : Type 0 where
  pub ring : ℕ
  pub later : List Fact
  pub made : facts ≡ plain n (Made ring) ∷ later
  pub lives : Lives n (with_ring ring) worked first_life later t

-- a node is at the end of its lives, and its lists have its number
pub record NodeRuns (h : List Fact) (worked : List WorkedJob) (n : ℕ) (t : Timed) : Type 0 where
  pub run : IsLives n worked (facts_of n h) t
  pub me : t.lists.me ≡ n
  pub valid : Valid t.lists

-- so is each node of these, and no other number has facts
pub record Runs (h : List Fact) (worked : List WorkedJob) (all : List Timed) : Type 0 where
  pub nodes : Placed (NodeRuns h worked) all
  pub others : (n : ℕ) → slice_get all n ≡ None → facts_of n h ≡ []

-- from facts by which the nodes are at the ends of runs, to such facts
abbrev pub Running : (Stage → List Fact → Stage → Type 0) → Type 0
Running P = (s : Stage) (h x : List Fact) (t : Stage) → Runs h s.worked s.nodes → P s x t
    → Runs (h ++ x) t.worked t.nodes

pub runs-none : (s : Stage) (h x : List Fact) (t : Stage) → Runs h s.worked s.nodes → x ≡ [] → t ≡ s
    → Runs (h ++ x) t.worked t.nodes
runs-none s h x t r e f = rw (e, f, append-nil h) r

-- these facts are of a node alone, which keeps its number, and work no job that was worked
pub record Mine (n : ℕ) (worked : List WorkedJob) (before : Timed) (x : List Fact) (now : Timed) : Type 0 where
  pub at : AllNode n x
  pub life : now.lists.life ≡ before.lists.life
  pub limits : limits_of now.lists ≡ limits_of before.lists
  pub me : now.lists.me ≡ n
  pub valid : Valid now.lists
  pub few : (s r : ℕ) → times_worked s r x + to_work (worked_after_all worked x) s r now.lists
      ≤ to_work worked s r before.lists

all-at : (n : ℕ) (x : List Fact) → AllNode n x → AllAt n x
all-at n [] a = tt
all-at n (f ∷ x) a = (a.0, all-at n x a.1)

-- facts of a life leave it, and the limits
pub life-stays : (clock : ℕ) (l : Lists) (x : List Fact) → (after_all clock l x).life ≡ l.life
life-stays clock l [] = refl
life-stays clock l (f ∷ x) = life-stays clock (after clock l f) x

limit-stays : (e : Event) (servers : List Server) (jobs : Jobs) → (jobs_after e servers jobs).limit ≡ jobs.limit
limit-stays (Given t r) servers jobs = refl
limit-stays (Ran t r y) servers jobs = refl
limit-stays _ servers jobs = refl

limits-stay : (clock : ℕ) (l : Lists) (x : List Fact) → limits_of (after_all clock l x) ≡ limits_of l
limits-stay clock l [] = refl
limits-stay clock l (f ∷ x) =
    limits-stay clock (after clock l f) x
    ∙ ap (λ (k : ℕ). record { ring = l.room; jobs = k; timeout = l.timeout })
    (limit-stays f.event l.servers l.jobs)

-- a group that works jobs that may be
pub mine-works : (n : ℕ) (worked : List WorkedJob) (before : Timed) (x : List Fact) (now : Timed)
    → before.lists.me ≡ n → Valid before.lists → Group plain_mode before x now
    → AllNode before.lists.me x → now.lists.me ≡ before.lists.me
    → ((clock : ℕ) → AllMay worked clock before.lists x) → Mine n worked before x now
mine-works n worked before x now me v g own kept may =
    let l = group-lawful plain_mode before x now v g in
    record {
      at = subst (λ (k : ℕ). AllNode k x) me own;
      life = ap (λ (u : Lists). u.life) l.leads.lists ∙ life-stays l.clock before.lists x;
      limits = ap limits_of l.leads.lists ∙ limits-stay l.clock before.lists x;
      me = kept ∙ me;
      valid = valid-at (record before { clock = l.clock }) x now v l.leads;
      few = λ s r. rw (l.leads.lists) (works-spend worked s r l.clock before.lists x v own l.leads.all (may l.clock));
    }

-- one that works none
pub mine-group : (n : ℕ) (worked : List WorkedJob) (before : Timed) (x : List Fact) (now : Timed)
    → before.lists.me ≡ n → Valid before.lists → Group plain_mode before x now
    → Owned false before x now → Mine n worked before x now
mine-group n worked before x now me v g o =
    mine-works n worked before x now me v g (own-node before.lists.me x o.facts) o.me
    (λ clock. own-may worked clock before.lists.me before.lists x o.facts)

pub one-group : (s t : Timed) (x : List Fact) → Group plain_mode s x t → Groups s x t
one-group s t x g = more none x t g

groups-append : (a : Timed) (x : List Fact) (b : Timed) (y : List Fact) (c : Timed) → Groups a x b
    → Groups b y c → Groups a (x ++ y) c
groups-append a x b _ _ p none = subst (λ (z : List Fact). Groups a z b) (sym (append-nil x)) p
groups-append a x b _ _ p (more {x = front} {t = u} c y v g) =
    subst (λ (z : List Fact). Groups a z v) (append_assoc x front y)
    (more (groups-append a x b front u p c) y v g)

-- a node's lives go on by groups
lives-grow : (n : ℕ) (limits : Limits) (worked now : List WorkedJob) (life : ℕ) (g : List Fact)
    (t : Timed) (x : List Fact) (u : Timed) → Groups t x u
    → u.lists.life ≡ t.lists.life → limits_of u.lists ≡ limits_of t.lists
    → ((s k : ℕ) → times_worked s k x + to_work now s k u.lists ≤ to_work worked s k t.lists)
    → Lives n limits worked life g t → Lives n limits now life (g ++ x) u
lives-grow n limits worked now _ _ _ x u steps same kept less (present life g t was at with few) =
    present life (g ++ x) u (groups-append (new_node n life limits) g t x u was steps)
    (same ∙ at) (kept ∙ with)
    (λ s k.
    let count = worked-append s k g x in
    let step = less s k in
    let most = few s k in
    omega arith)
lives-grow n limits worked now _ _ _ x u steps same kept less (past life part rest s t was once later) =
    subst (λ (z : List Fact). Lives n limits now life z u)
    (sym (append_assoc part (plain n (Restarted (life + 1)) ∷ rest) x))
    (past life part (rest ++ x) s u was once
    (lives-grow n limits worked now (life + 1) rest t x u steps same kept less later))

-- a restart begins the next one
new-few : (b : Bool) → cond {A = ℕ} b 0 0 ≡ 0
new-few true = refl
new-few false = refl

lives-restart : (n : ℕ) (limits : Limits) (worked now : List WorkedJob) (life : ℕ) (g : List Fact)
    (t : Timed) → t.lists.me ≡ n → Lives n limits worked life g t
    → Lives n limits now life (g ++ plain n (Restarted (t.lists.life + 1)) ∷ []) (restarted t)
lives-restart n limits worked now _ _ _ me (present life g t was at with few) =
    let next : Timed = new_node n (life + 1) limits in
    let valid : Valid next.lists = valid_new n (life + 1) limits in
    let new : restarted t ≡ next =
    ap (λ (m : ℕ). new_node m (t.lists.life + 1) (limits_of t.lists)) me
    ∙ (ap (λ (k : ℕ). new_node n (k + 1) (limits_of t.lists)) at
    ∙ ap (λ (z : Limits). new_node n (life + 1) z) with) in
    let first : Lives n limits now (life + 1) [] next =
    present (life + 1) [] next none refl refl (λ i k.
    let runs = valid.runs i k in
    let idle = new-few (list_any (is_worked n i k) now) in
    omega arith) in
    let done : Lives n limits now life (g ++ plain n (Restarted (life + 1)) ∷ []) next =
    past life g [] t next was (λ i k. let most = few i k in omega arith) first in
    subst (λ (u : Timed). Lives n limits now life (g ++ plain n (Restarted (t.lists.life + 1)) ∷ []) u)
    (sym new)
    (subst (λ (k : ℕ). Lives n limits now life (g ++ plain n (Restarted (k + 1)) ∷ []) next) (sym at) done)
lives-restart n limits worked now _ _ _ me (past life part rest s t was once later) =
    subst (λ (z : List Fact). Lives n limits now life z (restarted t))
    (sym (append_assoc part (plain n (Restarted (life + 1)) ∷ rest) (plain n (Restarted (t.lists.life + 1)) ∷ [])))
    (past life part (rest ++ plain n (Restarted (t.lists.life + 1)) ∷ []) s (restarted t) was once
    (lives-restart n limits worked now (life + 1) rest t me later))

lives-other : (n : ℕ) (limits : Limits) (worked now : List WorkedJob) (life : ℕ) (g : List Fact)
    (t : Timed) → t.lists.me ≡ n
    → ((s r : ℕ) → list_any (is_worked n s r) now ≡ list_any (is_worked n s r) worked)
    → Lives n limits worked life g t → Lives n limits now life g t
lives-other n limits worked now _ _ _ me same (present life g t was at with few) =
    present life g t was at with (λ s k.
    let any : list_any (is_worked t.lists.me s k) now
    ≡ list_any (is_worked t.lists.me s k) worked =
    subst (λ (i : ℕ). list_any (is_worked i s k) now
    ≡ list_any (is_worked i s k) worked) (sym me) (same s k) in
    let work : to_work now s k t.lists ≡ to_work worked s k t.lists =
    ap (λ b. to_give s k t.lists.server_numbers t.lists.servers
    + cond b 0 (jobs_of s k t.lists.jobs.out)) any in
    let most = few s k in
    omega arith)
lives-other n limits worked now _ _ _ me same (past life part rest s t was once later) =
    past life part rest s t was once (lives-other n limits worked now (life + 1) rest t me same later)

-- facts of another node change nothing of a node
node-stays : (h x : List Fact) (worked now : List WorkedJob) (n : ℕ) (t : Timed) → facts_of n x ≡ []
    → ((s r : ℕ) → list_any (is_worked n s r) now ≡ list_any (is_worked n s r) worked)
    → NodeRuns h worked n t → NodeRuns (h ++ x) now n t
node-stays h x worked now n t e same r =
    let facts = facts-stay n h x e in
    record {
      run = record {
        ring = r.run.ring;
        later = r.run.later;
        made = facts ∙ r.run.made;
        lives = lives-other n (with_ring r.run.ring) worked now first_life r.run.later t r.me same r.run.lives;
      };
      me = r.me;
      valid = r.valid;
    }

-- groups of one node
pub steps-run : (nodes : List Timed) (worked : List WorkedJob) (h : List Fact) (n : ℕ)
    (before now : Timed) (x : List Fact) → Runs h worked nodes → slice_get nodes n ≡ Some before
    → Groups before x now → Mine n worked before x now
    → Runs (h ++ x) (worked_after_all worked x) (slice_set nodes n now)
steps-run nodes worked h n before now x r is g m =
    let was = r.nodes n before is in
    let at = all-at n x m.at in
    let grown = facts-grow n h x at in
    let here : NodeRuns (h ++ x) (worked_after_all worked x) n now = record {
      run = record {
        ring = was.run.ring;
        later = was.run.later ++ x;
        made = grown ∙ ap (λ (y : List Fact). y ++ x) was.run.made;
        lives = lives-grow n (with_ring was.run.ring) worked (worked_after_all worked x) first_life
            was.run.later before x now g m.life m.limits m.few was.run.lives;
      };
      me = m.me;
      valid = m.valid;
    } in
    record {
      nodes = set-placed (NodeRuns (h ++ x) (worked_after_all worked x)) nodes n before now is here
          (λ j z ne is. node-stays h x worked (worked_after_all worked x) j z
          (facts-other n j x (λ e. ne (sym e)) at)
          (λ s k. others-same n j s k (λ e. ne (sym e)) x worked m.at) (r.nodes j z is));
      others = λ j e.
          let was_none = set-none nodes n j now e in
          facts-stay j h x (facts-other n j x (λ same. let both : Some before ≡ None = sym is ∙ (ap (slice_get nodes) same ∙ was_none) in cc) at) ∙ r.others j was_none;
    }

pub step-runs : (nodes : List Timed) (worked : List WorkedJob) (h : List Fact) (n : ℕ)
    (before now : Timed) (x : List Fact) → Runs h worked nodes → slice_get nodes n ≡ Some before
    → Group plain_mode before x now → Mine n worked before x now
    → Runs (h ++ x) (worked_after_all worked x) (slice_set nodes n now)
step-runs nodes worked h n before now x r is g m =
    steps-run nodes worked h n before now x r is (one-group before now x g) m

pub at-runs-all : (P : Rel) (n : ℕ) (s : Stage) (h x : List Fact) (t : Stage)
    → Runs h s.worked s.nodes → (a : AtNode P n s x t) → Groups a.before x a.now
    → Mine n s.worked a.before x a.now → Runs (h ++ x) t.worked t.nodes
at-runs-all P n s h x t r a g m = rw (a.left) (steps-run s.nodes s.worked h n a.before a.now x r a.is_node g m)

-- a step that is a group of a node, and works nothing
pub at-runs : (P : Rel) (n : ℕ) (s : Stage) (h x : List Fact) (t : Stage) → Runs h s.worked s.nodes
    → (a : AtNode P n s x t) → Group plain_mode a.before x a.now → Owned false a.before x a.now
    → Runs (h ++ x) t.worked t.nodes
at-runs P n s h x t r a g o =
    let was = r.nodes n a.before a.is_node in
    at-runs-all P n s h x t r a (one-group a.before a.now x g)
    (mine-group n s.worked a.before x a.now was.me was.valid g o)

-- facts of no node
pub quiet-runs : (nodes : List Timed) (worked : List WorkedJob) (h x : List Fact)
    → ((n : ℕ) → facts_of n x ≡ []) → Runs h worked nodes → Runs (h ++ x) worked nodes
quiet-runs nodes worked h x quiet r = record {
  nodes = λ j z is. node-stays h x worked worked j z (quiet j) (λ s k. refl) (r.nodes j z is);
  others = λ j e. facts-stay j h x (quiet j) ∙ r.others j e;
}

-- a fact of the network
pub net-runs : (nodes : List Timed) (worked : List WorkedJob) (h : List Fact) (e : Event)
    → Runs h worked nodes → Runs (h ++ of_net e ∷ []) worked nodes
net-runs nodes worked h e r = quiet-runs nodes worked h (of_net e ∷ []) (λ n. refl) r

-- a node is made
past-none : (nodes : List Timed) (j n : ℕ) (z : Timed) → n ≡ length nodes → slice_get nodes j ≡ Some z → n ≡ j → ⊥
past-none nodes j n z size is e =
    let none : slice_get nodes (length nodes) ≡ None = slice_get_past nodes (length nodes) (omega arith) in cc

pub made-runs : (ring : ℕ) → Running (Makes ring)
made-runs ring s h x t r m =
    let n = length s.nodes in
    let one : List Fact = plain n (Made ring) ∷ [] in
    let new : Timed = new_node n first_life (with_ring ring) in
    let past : slice_get s.nodes n ≡ None = slice_get_past s.nodes n (omega arith) in
    let facts : facts_of n (h ++ one) ≡ one =
    facts-grow n h one (refl, tt) ∙ ap (λ (y : List Fact). y ++ one) (r.others n past) in
    let valid : Valid new.lists = valid_new n first_life (with_ring ring) in
    let here : NodeRuns (h ++ one) s.worked n new = record {
      run = record {
        ring = ring;
        later = [];
        made = facts;
        lives = present first_life [] new none refl refl (λ i k.
            let runs = valid.runs i k in
            let idle = new-few (list_any (is_worked n i k) s.worked) in
            omega arith);
      };
      me = refl;
      valid = valid;
    } in
    rw (m.facts, m.left) (record {
      nodes = add-placed (NodeRuns (h ++ one) s.worked) s.nodes new here
          (λ j z is. node-stays h one s.worked s.worked j z
          (facts-other n j one (past-none s.nodes j n z refl is) (refl, tt)) (λ i k. refl)
          (r.nodes j z is));
      others = λ j e.
          facts-stay j h one (facts-other n j one (λ same. let last = add-last s.nodes new in let both : Some new ≡ None = sym last ∙ (ap (slice_get (s.nodes ++ new ∷ [])) same ∙ e) in cc) (refl, tt)) ∙ r.others j (add-none s.nodes new j e);
    })

-- a node is restarted
pub restart-runs : (n : ℕ) → Running (Restarts n)
restart-runs n s h x t r m =
    let was = r.nodes n m.before m.is_node in
    let l = m.before.lists in
    let one : List Fact = plain n (Restarted (l.life + 1)) ∷ [] in
    let facts : x ≡ one = m.facts ∙ ap (λ (k : ℕ). plain k (Restarted (l.life + 1)) ∷ []) was.me in
    let now = worked_after_all s.worked one in
    let grown = facts-grow n h one (refl, tt) in
    let here : NodeRuns (h ++ one) now n (restarted m.before) = record {
      run = record {
        ring = was.run.ring;
        later = was.run.later ++ one;
        made = grown ∙ ap (λ (y : List Fact). y ++ one) was.run.made;
        lives = lives-restart n (with_ring was.run.ring) s.worked now first_life was.run.later m.before
            was.me was.run.lives;
      };
      me = was.me;
      valid = valid_new l.me (l.life + 1) (limits_of l);
    } in
    rw (m.left, facts) (record {
      nodes = set-placed (NodeRuns (h ++ one) now) s.nodes n m.before (restarted m.before) m.is_node here
          (λ j z ne is. node-stays h one s.worked now j z
          (facts-other n j one (λ e. ne (sym e)) (refl, tt))
          (λ i k. others-same n j i k (λ e. ne (sym e)) one s.worked (refl, tt)) (r.nodes j z is));
      others = λ j e.
          let was_none = set-none s.nodes n j (restarted m.before) e in
          facts-stay j h one (facts-other n j one (λ same. let both : Some m.before ≡ None = sym m.is_node ∙ (ap (slice_get s.nodes) same ∙ was_none) in cc) (refl, tt)) ∙ r.others j was_none;
    })
