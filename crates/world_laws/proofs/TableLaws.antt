-- The tables of each node say what the facts of its present life tell: a Made before them changes no reading of
-- calls either.
use Rattle.std.proofs.Common.{◌≡◌, ◌||◌, ◌∙◌, ℕ, Bool, Option, Some, None, List, [], ◌∷◌, refl, sym, ap, subst}
use Rattle.std.specs.Prelude.{count_by}
use Rattle.std.specs.List.{list_any}
use Rattle.node_laws.proofs.TableLaws.{table_tells}
use Rattle.node_laws.specs.CallHistory.{asks_call, latest_first, parts_by, posted_by, posted_next, rolls_by}
use Rattle.node_laws.specs.CallHistory.{rolls_next, size_by, takes_of, TellsActive, TellsCall}
use Rattle.node_laws.specs.CallHistory.{TellsProgress, TellsTable}
use Rattle.node_laws.specs.EndedCalls.{asks_on, begins_as}
use Rattle.node_laws.specs.RequestHistory.{ring_by}
use Rattle.rpc_base.specs.declared.event.Event.TheVariants.{Made}
use Rattle.rpc_base.specs.declared.fact.Fact.{Fact}
use Rattle.rpc_laws.specs.declared.tables.Arrival.{Arrival}
use Rattle.rpc_laws.specs.declared.tables.Call.{Call}
use Rattle.rpc_laws.specs.declared.tables.Lists.{Lists}
use Rattle.rpc_laws.specs.declared.tables.Progress.{Progress}
use Rattle.rpc_laws.specs.declared.tables.Timed.{Timed}
use Rattle.rpc_laws.specs.AtMostOnce.{begins_call, ends_call}
use Rattle.rpc_laws.specs.Endpoints.{facts_by}
use Rattle.rpc_laws.specs.Facts.{plain}
use Rattle.rpc_laws.specs.Queues.{ring_after}
use Rattle.rpc_laws.specs.Service.{plain_serving}
use Rattle.world_laws.specs.Laws.{TablesTellTheHistory}
use Rattle.world_laws.specs.NodeFacts.{facts_of, IsRun, RunAt}
use Rattle.world_laws.proofs.LifeFacts.{end_of, of-end}
use Rattle.world_laws.proofs.NodeLaws.{runs}
use Rattle.world_laws.proofs.RequestLaws.{count-next, requests-tell}

-- two lists of facts tell the same of each call
record SameTold (past other : List Fact) : Type 0 where
  asks : (c : ℕ) → list_any (λ f. asks_call c f.event) past ≡ list_any (λ f. asks_call c f.event) other
  ends : (c : ℕ) → list_any (λ f. ends_call c f.event) past ≡ list_any (λ f. ends_call c f.event) other
  asked : (c s : ℕ) → list_any (λ f. asks_on c s f.event) past ≡ list_any (λ f. asks_on c s f.event) other
  begun : (c : ℕ) → list_any (λ f. begins_call c f.event) past ≡ list_any (λ f. begins_call c f.event) other
  began : (c r : ℕ) → list_any (λ f. begins_as c r f.event) past ≡ list_any (λ f. begins_as c r f.event) other
  taken : (s r : ℕ) → count_by (λ f. takes_of s r f.event) past ≡ count_by (λ f. takes_of s r f.event) other
  posted : (c s r : ℕ) → posted_by c s r past ≡ posted_by c s r other
  rolls : (c s r : ℕ) → rolls_by c s r past ≡ rolls_by c s r other
  ring : ring_by past ≡ ring_by other
  size : (s r : ℕ) → size_by s r past ≡ size_by s r other
  parts : (s r : ℕ) → parts_by s r past ≡ parts_by s r other

told-next : (past other : List Fact) (f : Fact) → SameTold past other → SameTold (f ∷ past) (f ∷ other)
told-next past other f s = record {
  asks = λ c. ap (λ (b : Bool). asks_call c f.event || b) (s.asks c);
  ends = λ c. ap (λ (b : Bool). ends_call c f.event || b) (s.ends c);
  asked = λ c n. ap (λ (b : Bool). asks_on c n f.event || b) (s.asked c n);
  begun = λ c. ap (λ (b : Bool). begins_call c f.event || b) (s.begun c);
  began = λ c r. ap (λ (b : Bool). begins_as c r f.event || b) (s.began c r);
  taken = λ n r. count-next (λ e. takes_of n r e.event) f past other (s.taken n r);
  posted = λ c n r. ap (posted_next c n r f.event) (s.posted c n r);
  rolls = λ c n r. ap (rolls_next c n r f.event) (s.rolls c n r);
  ring = ap (λ (ring : List Arrival). ring_after f.event f.first ring) s.ring;
  size = λ n r. rw (s.ring, s.size n r) refl;
  parts = λ n r. rw (s.ring, s.parts n r) refl;
}

told-all : (past other g : List Fact) → SameTold past other → SameTold (latest_first past g) (latest_first other g)
told-all past other [] s = s
told-all past other (f ∷ g) s = told-all (f ∷ past) (f ∷ other) g (told-next past other f s)

told-made : (n ring : ℕ) → SameTold [] (plain n (Made ring) ∷ [])
told-made n ring = record {
  asks = λ c. refl;
  ends = λ c. refl;
  asked = λ c s. refl;
  begun = λ c. refl;
  began = λ c r. refl;
  taken = λ s r. refl;
  posted = λ c s r. refl;
  rolls = λ c s r. refl;
  ring = refl;
  size = λ s r. refl;
  parts = λ s r. refl;
}

-- so the table says what either tells
active-other : (past other : List Fact) (c n : ℕ) (p : Progress) → SameTold past other
    → TellsActive past c n p → TellsActive other c n p
active-other past other c n p s h = record {
  begun = sym (s.began c p.request) ∙ h.begun;
  got = h.got ∙ s.taken n p.request;
  posted = h.posted ∙ s.posted c n p.request;
  rolls = h.rolls ∙ s.rolls c n p.request;
  answer = h.answer ∙ s.size n p.request;
  parts = h.parts ∙ s.parts n p.request;
}

progress-other : (past other : List Fact) (c n : ℕ) (o : Option Progress) → SameTold past other
    → TellsProgress past c n o → TellsProgress other c n o
progress-other past other c n None s h = sym (s.begun c) ∙ h
progress-other past other c n (Some p) s h = active-other past other c n p s h

call-other : (past other : List Fact) (n : ℕ) (c : Call) → SameTold past other → TellsCall past n c
    → TellsCall other n c
call-other past other n c s h = record {
  asked = sym (s.asked c.what.number n) ∙ h.asked;
  progress = progress-other past other c.what.number n c.progress s h.progress;
}

table-other : (past other : List Fact) (l : Lists) → SameTold past other → TellsTable past l
    → TellsTable other l
table-other past other l s h = record {
  listed = λ c. rw (← s.asks c, ← s.ends c) (h.listed c);
  calls = λ n i x c client call. call-other past other n c s (h.calls n i x c client call);
}

calls-tell : (n : ℕ) (h : List Fact) (t : Timed) → IsRun n (facts_of n h) t
    → TellsTable (latest_first [] (facts_by (end_of n t.lists.life) h)) t.lists
calls-tell n h t r =
    of-end (λ g. TellsTable (latest_first [] g) t.lists) n t
    (λ life limits g run. table_tells plain_serving n life limits g t run)
    (λ ring g c. table-other (latest_first [] g) (latest_first (plain n (Made ring) ∷ []) g) t.lists
    (told-all [] (plain n (Made ring) ∷ []) g (told-made n ring)) c) h r

pub tables-tell : TablesTellTheHistory
tables-tell script h two few f n t is =
    let run : IsRun n (facts_of n h) t = subst (RunAt n (facts_of n h)) is (runs script h two few f n) in
    record { calls = calls-tell n h t run; requests = requests-tell n h t run }
