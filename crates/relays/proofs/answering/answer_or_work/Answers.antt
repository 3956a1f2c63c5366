-- bytes that were taken are the answer
use Rattle.std.proofs.Common.{◌≡◌, true, false, refl}
use Rattle.relays.proofs.RelayLemmas.{same-bytes}
use Rattle.relays.proofs.answering.answer_or_work.Goals as goal

pub returns-in-Ok-clause-fits : goal.returns-in-Ok-clause-fits
returns-in-Ok-clause-fits g c = (
  λ yes. same-bytes _ _ (λ other. let no : false ≡ true = c.in-Ok.ensures.fits.1 other in cc),
  λ same. refl,
)
