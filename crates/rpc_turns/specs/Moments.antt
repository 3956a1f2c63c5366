-- Where a run stands, and what contracts see of what is around an endpoint.
use Rattle.std.specs.Prelude.{ℕ, List}
use Rattle.rpc_outside.specs.Recording.{Log}
use Rattle.rpc_outside.specs.declared.link.Link as Link
use Rattle.endpoint_loop.specs.Endpoints.{Running}
use Rattle.rpc_turns.specs.declared.rest.Rest.{Rest}

-- what is around an endpoint: its link, its clock and its recorder
pub record Edges (L C R : Type 0) : Type 0 where
  pub link : L
  pub clock : C
  pub rec : R

-- where a run stands: what it has so far, and what is around its endpoint
pub record Moment (S L C R : Type 0) : Type 0 where
  pub run : S
  pub edges : Edges L C R

abbrev pub edges_of : {L C R : Type 0} → L → C → R → Edges L C R
edges_of link clock rec = record { link = link; clock = clock; rec = rec }

abbrev pub where_at : {S L C R : Type 0} → S → L → C → R → Moment S L C R
where_at run link clock rec = record { run = run; edges = edges_of link clock rec }

-- an endpoint, and what its run does where nothing comes
pub record Rested (V W : Type 0) : Type 0 where
  pub endpoint : Running V W
  pub rest : Rest

abbrev pub rested : {V W : Type 0} → Running V W → Rest → Rested V W
rested endpoint rest = record { endpoint = endpoint; rest = rest }

-- the same moment, of its endpoint alone
abbrev pub endpoint_at : {V W L C R : Type 0} → Moment (Rested V W) L C R
    → Moment (Running V W) L C R
endpoint_at m = record { run = m.run.endpoint; edges = m.edges }

-- what contracts see of a link, a clock and a recorder: what the link tells, the answers that the
-- clock may have given, and what the recorder keeps
pub record Outside (L C R : Type 0) : Type 1 where
  pub net : Link.Ghosts L
  pub gave : C → List ℕ → Type 0
  pub log : R → Log

abbrev pub outside : {L C R : Type 0} → Link.Ghosts L → (C → List ℕ → Type 0) → (R → Log)
    → Outside L C R
outside net gave log = record { net = net; gave = gave; log = log }
