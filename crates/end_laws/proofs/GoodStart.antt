-- Before the first fact nothing is known.
use Rattle.std.proofs.Common.{[], None, refl}
use Rattle.end_laws.specs.Moments.{first_moment}
use Rattle.end_laws.proofs.Known.{Known, Good}
use Rattle.end_laws.proofs.SendsLaw.{AllRight}
use Rattle.end_laws.proofs.Valids.{AllValid}

abbrev nothing : Known
nothing = record {
  past = [];
  ends = λ a b c. None;
  asks = λ a b c. None;
  starts = λ a b c. None;
  runs = λ a b c. None;
}

pub first-right : AllRight first_moment
first-right = λ j z is. absurd (cc)

pub first-valid : AllValid first_moment
first-valid = λ j z is. absurd (cc)

pub first-good : Good first_moment
first-good = record {
  known = nothing;
  past = refl;
  nodes = λ n l is. absurd (cc);
  travels = record { flight = tt; hand = tt; rings = λ n l is. absurd (cc); inboxes = λ n l is. absurd (cc) };
  is_true = record {
    ends = λ a b c x is. absurd (cc);
    asks = λ a b c x is. absurd (cc);
    starts = λ a b c x is. absurd (cc);
    runs = λ a b c x is. absurd (cc);
  };
  unmade = record {
    asks = λ n c le. refl;
    ends = λ n t le. refl;
    starts = λ n s r le. refl;
    runs = λ n t r le. refl;
  };
}
