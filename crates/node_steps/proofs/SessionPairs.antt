-- An end of a pair is made, or refused.
use Rattle.std.proofs.Common.{◌≡◌, ℕ, Option, Some, None, [], ◌∷◌, length, sym, ap, ◌∙◌}
use Rattle.std.specs.Prelude.{IfSome, IsSome}
use Rattle.rpc_outside.specs.Recording.{Log}
use Rattle.rpc_base.specs.declared.event.Event.{Event}
use Rattle.rpc_base.specs.declared.event.Event.TheVariants.{PairedClient, PairedServer}
use Rattle.rpc_laws.specs.declared.tables.Timed.{Timed}
use Rattle.rpc_laws.specs.Facts.{plain}
use Rattle.rpc_laws.specs.Groups.{client_refusal, server_refusal}
use Rattle.rpc_laws.specs.Steps.{NotesNext}
use Rattle.memory_count.specs.Faults.{HasRisenBy}
use Rattle.memory_count.proofs.Risen.{none-risen}
use Rattle.session_mgmt.specs.Refusals.{lacks_for, refused}
use Rattle.session_mgmt.specs.declared.answers.ConnectError.{ConnectError}
use Rattle.session_mgmt.specs.declared.answers.ConnectError.TheVariants.{NoMemory, NumbersSpent}
use Rattle.session_mgmt.specs.declared.answers.ConnectError.TheVariants.{RingFull}
use Rattle.node_steps.specs.Pairs.{PairsClient, PairsServer, Refuses, or_refused}
use Rattle.node_steps.specs.Notes.{Makes}

some-event : (a b : Event) → Some a ≡ Some b → a ≡ b
some-event a b h = cc

module _ {R : Type 0} (log : R → Log) (a b : Timed) (f g : R)
    (peer other credits life : ℕ) where
  pub client-refused : (o : Option Event) → client_refusal credits a.lists ≡ o → IsSome o
      → IfSome o (λ event. Makes log (Refuses event) a a f g)
      → Makes log (PairsClient peer other credits life) a a f g
  client-refused None e some makes = cc
  client-refused (Some event) e some makes = record {
    noted = makes.noted;
    grew = makes.grew;
    step = λ asks. record {
      facts = (makes.step asks).facts ∙ ap (λ o. plain a.lists.me (or_refused o
          (PairedClient (length a.lists.clients) peer other credits life)) ∷ []) (sym e);
      goes = (makes.step asks).goes;
    };
  }

  pub client-made : client_refusal credits a.lists ≡ None
      → Makes log (NotesNext (λ s. Some (PairedClient (length s.clients) peer other credits life)))
      a b f g → Makes log (PairsClient peer other credits life) a b f g
  client-made e makes = record {
    noted = makes.noted;
    grew = makes.grew;
    step = λ asks.
        let h = makes.step asks in
        let made = PairedClient (length a.lists.clients) peer other credits life in
        record {
          facts = h.facts
              ∙ ap (λ event. plain a.lists.me event ∷ []) (sym (some-event made h.event h.is_next))
              ∙ ap (λ o. plain a.lists.me (or_refused o made) ∷ []) (sym e);
          goes = h.goes;
        };
  }

  pub server-refused : (o : Option Event) → server_refusal credits a.lists ≡ o → IsSome o
      → IfSome o (λ event. Makes log (Refuses event) a a f g)
      → Makes log (PairsServer peer other credits life) a a f g
  server-refused None e some makes = cc
  server-refused (Some event) e some makes = record {
    noted = makes.noted;
    grew = makes.grew;
    step = λ asks. record {
      facts = (makes.step asks).facts ∙ ap (λ o. plain a.lists.me (or_refused o
          (PairedServer a.lists.server_numbers peer other credits life)) ∷ []) (sym e);
      goes = (makes.step asks).goes;
    };
  }

  pub server-made : server_refusal credits a.lists ≡ None
      → Makes log (NotesNext (λ s. Some (PairedServer s.server_numbers peer other credits life)))
      a b f g → Makes log (PairsServer peer other credits life) a b f g
  server-made e makes = record {
    noted = makes.noted;
    grew = makes.grew;
    step = λ asks.
        let h = makes.step asks in
        let made = PairedServer a.lists.server_numbers peer other credits life in
        record {
          facts = h.facts
              ∙ ap (λ event. plain a.lists.me event ∷ []) (sym (some-event made h.event h.is_next))
              ∙ ap (λ o. plain a.lists.me (or_refused o made) ∷ []) (sym e);
          goes = h.goes;
        };
  }

-- a refusal that is noted tells of no want of memory
pub refused-lacks : (n : ℕ) (why : ConnectError) → IsSome (refused why)
    → HasRisenBy (lacks_for why) n n
refused-lacks n NumbersSpent some = none-risen n
refused-lacks n (RingFull shares credits ring) some = none-risen n
refused-lacks n NoMemory some = cc
