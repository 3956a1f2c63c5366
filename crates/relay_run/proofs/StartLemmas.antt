-- What a server that relays is as it starts.
use Rattle.std.proofs.Common.{◌≡◌, ℕ, [], ◌∷◌, ◌++◌, length, refl, sym, ap, subst, ◌∙◌}
use Rattle.deferred_calls.specs.Desks.{Jobs}
use Rattle.endpoint_loop.specs.PlainMembers.{plain_members}
use Rattle.relay_run.specs.Runs.{DeskEnd, IsNew, Opens, empty_desk, none_relayed}
use Rattle.relay_run.specs.declared.opening.TheConstants.{RELAY_CREDITS}
use Rattle.relay_steps.specs.Passing.{relayed}
use Rattle.relay_turns.proofs.KeepLemmas.{book-begins, none-pending}
use Rattle.relay_turns.specs.Deferred.{IsBookOf, new_book}
use Rattle.relay_turns.specs.Working.{WorksOn}
use Rattle.relays.specs.Relaying.{Relaying, Stands}
use Rattle.rpc_base.specs.declared.event.Event.TheVariants.{Opened}
use Rattle.rpc_base.specs.declared.limits.Limits.{Limits}
use Rattle.rpc_laws.specs.Facts.{plain}
use Rattle.rpc_laws.specs.declared.tables.Timed.{Timed}
use Rattle.rpc_outside.specs.PlainAnswer.{background_answer}
use Rattle.rpc_outside.specs.Recording.{Log}

-- an empty desk, of which no job was asked
pub stands-empty : (limit : ℕ) → Stands (empty_desk limit) [] (none_relayed limit)
stands-empty limit = record { limit = refl; handled = refl; counts = refl }

module _ {R : Type 0} (log : R → Log) (life : ℕ) (limits : Limits) (peer : ℕ) (a b : DeskEnd)
    (f g : R) (r : Relaying) (made : IsNew life limits a) (opens : Opens log peer a b f g)
    (none : r ≡ none_relayed limits.jobs) where
  pub opened : opens.noted ≡ plain 0 (Opened 0 peer RELAY_CREDITS) ∷ []
  opened = opens.opens ∙ ap (λ (t : Timed). plain t.lists.me
      (Opened (length t.lists.clients) peer RELAY_CREDITS) ∷ []) made.timed

  pub in-life : b.timed.lists.life ≡ life
  in-life = opens.stands.life ∙ ap (λ (t : Timed). t.lists.life) made.timed

  pub desk-empty : b.workers ≡ empty_desk limits.jobs
  desk-empty = opens.workers ∙ made.workers

  opened-one : b.handed ≡ [] ∷ []
  opened-one = opens.handed ∙ ap (λ x. x ++ [] ∷ []) made.handed

  none-asked : r.asked ≡ []
  none-asked = ap (λ (q : Relaying). q.asked) none

  pub book-new : IsBookOf (relayed b r) new_book
  book-new = book-begins (relayed b r) opened-one none-asked
      (ap (λ (d : Jobs). d.answered) desk-empty) (ap (λ (q : Relaying). q.relayed) none)
      (ap (λ (q : Relaying). q.here) none)

  pub works-on : WorksOn plain_members background_answer limits opens.noted (relayed b r)
  works-on = record {
    stands = record {
      node = opens.stands.me ∙ ap (λ (t : Timed). t.lists.me) made.timed;
      runs = opens.stands.stands limits [] made.stands.runs;
    };
    relays = subst (λ (q : Relaying). Stands b.workers [] q) (sym none)
        (subst (λ (d : Jobs). Stands d [] (none_relayed limits.jobs)) (sym desk-empty)
        (stands-empty limits.jobs));
    none_waits = ap (λ (d : Jobs). d.waiting) desk-empty;
    pending = [];
    has_pending = none-pending (relayed b r) opened-one none-asked;
  }
