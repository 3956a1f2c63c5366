-- What opening a session notes, and that an endpoint goes on by it.
use Rattle.std.proofs.Common.{◌≡◌, ℕ, Bool, true, false, cond, Some, None, []}
use Rattle.std.proofs.Common.{◌∷◌, ◌++◌, length, refl, ap, arith, ◌∙◌}
use Rattle.desk_laws.specs.Staying.{desk_members}
use Rattle.endpoint_loop.proofs.StandingLaw.{is_labour}
use Rattle.endpoint_loop.specs.Endpoints.{asks_of, Leaves}
use Rattle.endpoint_loop.specs.PlainMembers.{plain_members}
use Rattle.node_steps.proofs.NoteStill.{AllStill, Stills}
use Rattle.node_steps.specs.Notes.{Makes, sent_of}
use Rattle.node_laws.specs.NodeRun.{connects}
use Rattle.relay_run.specs.Runs.{DeskEnd, Opens}
use Rattle.relay_run.specs.declared.opening.TheConstants.{RELAY_CREDITS}
use Rattle.relay_steps.proofs.AskLemmas.{makes-stands}
use Rattle.rpc_base.specs.declared.event.Event.TheVariants.{NconnectNumbers, NconnectRing, Opened}
use Rattle.rpc_laws.specs.Facts.{plain}
use Rattle.rpc_laws.specs.Groups.{Connects, client_refusal, clients_spent, connect_by}
use Rattle.rpc_laws.specs.Groups.{has_no_room, shares}
use Rattle.rpc_laws.specs.declared.tables.Lists.{Lists}
use Rattle.rpc_outside.specs.PlainAnswer.{background_answer}
use Rattle.rpc_outside.specs.Recording.{Log}
use Rattle.session_mgmt.specs.Refusals.{refused}
use Rattle.session_mgmt.specs.declared.answers.ConnectError.{ConnectError}
use Rattle.session_mgmt.specs.declared.answers.ConnectError.TheVariants.{NoMemory, NumbersSpent}
use Rattle.session_mgmt.specs.declared.answers.ConnectError.TheVariants.{RingFull}

-- a session that nothing refuses, and that isn't opened, wants for memory
pub wants-memory : (why : ConnectError) → refused why ≡ None → why ≡ NoMemory
wants-memory NumbersSpent e = cc
wants-memory (RingFull taken wanted ring) e = cc
wants-memory NoMemory e = refl

connected-if : (b c : Bool) (n credits room peer : ℕ) (s : Lists)
    → AllStill is_labour (connect_by (cond b (Some NconnectNumbers)
    (cond c (Some (NconnectRing n credits room)) None)) peer credits 0 s)
connected-if true c n credits room peer s = (refl, tt)
connected-if false true n credits room peer s = (refl, tt)
connected-if false false n credits room peer s = (refl, tt)

connect-still : (peer credits : ℕ) → Stills is_labour (Connects peer credits 0)
connect-still peer credits s x t h =
    rw h.facts (connected-if (clients_spent s.lists) (has_no_room credits s.lists)
    (shares s.lists) credits s.lists.room peer s.lists)

module _ {R : Type 0} (log : R → Log) (peer : ℕ) (a b : DeskEnd) (f g : R)
    (makes : Makes log (Connects peer RELAY_CREDITS 0) a.timed b.timed f g)
    (leaves : Leaves a b) (free : client_refusal RELAY_CREDITS a.timed.lists ≡ None)
    (handed : b.handed ≡ a.handed ++ [] ∷ []) where
  noted-one : makes.noted
      ≡ plain a.timed.lists.me (Opened (length a.timed.lists.clients) peer RELAY_CREDITS) ∷ []
  noted-one =
      (makes.step (asks_of ((desk_members background_answer).out a.workers))).facts
      ∙ rw free refl

  pub session-opens : Opens log peer a b f g
  session-opens = record {
    noted = makes.noted;
    opens = noted-one;
    grew = makes.grew;
    stands = makes-stands log plain_members background_answer (Connects peer RELAY_CREDITS 0) a b f
        g makes (λ s x t h. connects peer RELAY_CREDITS 0
        (record { some = omega arith; few = omega arith }) h)
        (λ s x t h. h.goes) (connect-still peer RELAY_CREDITS) leaves (ap sent_of noted-one);
    workers = leaves.workers;
    handed = handed;
  }
