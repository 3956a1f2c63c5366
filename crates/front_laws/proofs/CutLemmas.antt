-- A run is cut at each of its whole prefixes.
use Rattle.std.proofs.Common.{◌≡◌, ℕ, Bool, true, false, ◌==◌}
use Rattle.std.proofs.Common.{List, [], ◌∷◌, ◌++◌, Option, Some, None, refl, sym, ap, ◌∙◌, subst}
use Rattle.std.proofs.Common.{append_assoc, append-nil, true≢false, length, suc, ◌+◌, eqb, eq-eqb, ne_eqb, arith}
use Rattle.std.specs.List.{find}
use Rattle.rpc_base.specs.declared.event.Event.{Event}
use Rattle.rpc_base.specs.declared.event.Event.TheVariants.{Opened, Rated, Polled}
use Rattle.rpc_base.specs.declared.fact.Fact.{Fact}
use Rattle.rpc_laws.specs.declared.tables.Client.{Client}
use Rattle.rpc_laws.specs.declared.tables.Lists.{Lists}
use Rattle.rpc_laws.specs.declared.tables.Timed.{Timed}
use Rattle.rpc_laws.specs.Facts.{plain}
use Rattle.rpc_laws.specs.Groups.{client_refusal, connect_by, rate_by, state_of}
use Rattle.rpc_laws.specs.NodeLists.{after, after_all}
use Rattle.rpc_laws.specs.Sessions.{is_client, opened_end}
use Rattle.rpc_laws.specs.Steps.{Chain, Goes, more, none}
use Rattle.node_laws.specs.NodeRun.{asks, connects, delivers, disconnects, Group, misses, pairs_client}
use Rattle.node_laws.specs.NodeRun.{pairs_server, polls, refuses, sets_rate, works, IsCredits}
use Rattle.node_laws.specs.Valid.{client_no, NumberedFrom, Valid}
use Rattle.node_laws.proofs.LeadsLemmas.{valid-at}
use Rattle.node_laws.proofs.RunLaws.{group-lawful}
use Rattle.rpc_outside.specs.declared.service.Mode.{Mode}
use Rattle.front_laws.specs.Whole.{ends_open, is_polls, open_after}
use Rattle.front_laws.proofs.PollFacts.{AllPolls, Ending, poll-ending}

-- two ways to cut a list
pub data TwoWays {A : Type 0} (a b c d : List A) : Type 0 where
  early : (k : List A) → c ≡ a ++ k → b ≡ k ++ d → TwoWays a b c d
  late : (k : List A) → a ≡ c ++ k → d ≡ k ++ b → TwoWays a b c d

ways-next : {A : Type 0} (x y : A) (a b c d : List A) → x ≡ y → TwoWays a b c d
    → TwoWays (x ∷ a) b (y ∷ c) d
ways-next x y a b c d e (early k f g) =
    early k (ap (λ z. z ∷ c) (sym e) ∙ ap (λ z. x ∷ z) f) g
ways-next x y a b c d e (late k f g) = late k (ap (λ z. z ∷ a) e ∙ ap (λ z. y ∷ z) f) g

pub two-ways : {A : Type 0} (a b c d : List A) → a ++ b ≡ c ++ d → TwoWays a b c d
two-ways [] b c d e = early c refl e
two-ways (x ∷ a) b [] d e = late (x ∷ a) refl (sym e)
two-ways (x ∷ a) b (y ∷ c) d e =
    let head : x ≡ y = cc in
    let tail : a ++ b ≡ c ++ d = cc in
    ways-next x y a b c d head (two-ways a b c d tail)

-- in the midst of a poll
pub open-append : (busy : Bool) (g k : List Fact) → ends_open busy (g ++ k) ≡ ends_open (ends_open busy g) k
open-append busy [] k = refl
open-append busy (f ∷ g) k = open-append (open_after f.event busy) g k

opens : (e : Event) (busy : Bool) → is_polls e ≡ true → open_after e busy ≡ true
opens e busy p = rw p refl

stays-open : (n : ℕ) (k : List Fact) → AllPolls n k → ends_open true k ≡ true
stays-open n [] a = refl
stays-open n (f ∷ k) a = rw (opens f.event true a.0.1) (stays-open n k a.1)

polls-open : (n : ℕ) (busy : Bool) (f : Fact) (k : List Fact) → AllPolls n (f ∷ k)
    → ends_open busy (f ∷ k) ≡ true
polls-open n busy f k a = rw (opens f.event busy a.0.1) (stays-open n k a.1)

all-front : (n : ℕ) (x y : List Fact) → AllPolls n (x ++ y) → AllPolls n x
all-front n [] y a = tt
all-front n (f ∷ x) y a = (a.0, all-front n x y a.1)

-- a front of a poll that leaves something
last-alone : (p w : Fact) (m x : List Fact) → p ∷ [] ≡ m ++ w ∷ x → m ≡ []
last-alone p w [] x e = refl
last-alone p w (f ∷ []) x e = cc
last-alone p w (f ∷ g ∷ m) x e = cc

front-polls : (n : ℕ) (y k x : List Fact) (w : Fact) (t : Timed) → Ending n y t → y ≡ k ++ w ∷ x → AllPolls n k
front-polls n y k x w t h e =
    by-ways (two-ways h.front (plain n (Polled t.clock) ∷ []) k (w ∷ x) (sym h.joined ∙ e))
  where
    by-ways : TwoWays h.front (plain n (Polled t.clock) ∷ []) k (w ∷ x) → AllPolls n k
    by-ways (early m f g) =
        let nothing = last-alone (plain n (Polled t.clock)) w m x g in
        rw (f, nothing, append-nil h.front) h.all
    by-ways (late m f g) = all-front n k m (subst (λ z. AllPolls n z) f h.all)

-- one fact can't be parted
one-alone : (a f w : Fact) (k x : List Fact) → a ∷ [] ≡ (f ∷ k) ++ w ∷ x → ⊥
one-alone a f w [] x e = cc
one-alone a f w (g ∷ k) x e = cc

-- what is left of a run where a front of it is cut off
pub record Split (mode : ℕ → Mode) (s : Timed) (g x : List Fact) (t : Timed) : Type 0 where
  pub between : Timed
  pub first : Chain (Group mode) s g between
  pub second : Chain (Group mode) between x t

pub chain-valid : (mode : ℕ → Mode) (s : Timed) {x : List Fact} {t : Timed} → Valid s.lists
    → Chain (Group mode) s x t → Valid t.lists
chain-valid mode s v none = v
chain-valid mode s v (more {x} {t} c y u p) =
    let before = chain-valid mode s v c in
    let l = group-lawful mode t y u before p in
    valid-at (record t { clock = l.clock }) y u before l.leads

-- the session that was opened last is found by its number
last-found : (xs : List Client) (k n : ℕ) (x : Client) → NumberedFrom client_no k xs → n ≡ k + length xs
    → x.way.number ≡ n → find (is_client n) (xs ++ x ∷ []) ≡ Some x
last-found [] k n x h e f = rw (eq-eqb x.way.number n f) refl
last-found (y ∷ xs) k n x h e f =
    let here = h.0 in
    let other : eqb y.way.number n ≡ false = ne_eqb y.way.number n (λ d. omega (arith, here)) in
    rw other (last-found xs (suc k) n x h.1 (omega arith) f)

-- a group of which a front is cut off: it is a front of a poll, or the rest is a group too
pub data Parted (mode : ℕ → Mode) (s : Timed) (g x : List Fact) (t : Timed) : Type 0 where
  in_poll : (n : ℕ) → AllPolls n g → Parted mode s g x t
  parts : Split mode s g x t → Parted mode s g x t

pub record IsTwo (a b f w : Fact) (k x : List Fact) : Type 0 where
  first : f ≡ a
  none : k ≡ []
  second : w ≡ b
  last : x ≡ []

two-alone : (a b f w : Fact) (k x : List Fact) → a ∷ b ∷ [] ≡ (f ∷ k) ++ w ∷ x → IsTwo a b f w k x
two-alone a b f w [] x e = record { first = cc; none = refl; second = cc; last = cc }
two-alone a b f w (g ∷ []) x e = absurd (long e) where
  long : a ∷ b ∷ [] ≡ f ∷ g ∷ w ∷ x → ⊥
  long e = cc
two-alone a b f w (g ∷ h ∷ k) x e = absurd (long e) where
  long : a ∷ b ∷ [] ≡ f ∷ g ∷ h ∷ k ++ w ∷ x → ⊥
  long e = cc

pub one-step : (mode : ℕ → Mode) (s : Timed) (y : List Fact) (t : Timed) → Group mode s y t → Chain (Group mode) s y t
one-step mode s y t p = subst (λ (z : List Fact). Chain (Group mode) s z t) (nil-append y) (more none y t p) where
  nil-append : (z : List Fact) → [] ++ z ≡ z
  nil-append z = refl

abbrev opened : Lists → ℕ → ℕ → Fact
opened s peer credits = plain s.me (Opened (length s.clients) peer credits)

abbrev rated : Lists → ℕ → Fact
rated s rate = plain s.me (Rated (length s.clients) rate)

abbrev mid : Timed → ℕ → ℕ → Timed
mid s peer credits = record { lists = after s.clock s.lists (opened s.lists peer credits); clock = s.clock }

opens-first : (mode : ℕ → Mode) (s : Timed) (peer credits : ℕ) → IsCredits credits
    → client_refusal credits s.lists ≡ None
    → Group mode s (opened s.lists peer credits ∷ []) (mid s peer credits)
opens-first mode s peer credits few e =
    connects peer credits 0 few (record { facts = rw e refl; goes = refl })

rates-next : (mode : ℕ → Mode) (s : Timed) (peer credits rate : ℕ) (y : List Fact) (t : Timed) → Valid s.lists
    → y ≡ opened s.lists peer credits ∷ rated s.lists rate ∷ [] → Goes s y t
    → Group mode (mid s peer credits) (rated s.lists rate ∷ []) t
rates-next mode s peer credits rate y t v e g =
    let n = length s.lists.clients in
    let found = last-found s.lists.clients 0 n (opened_end n peer credits) v.numbered (omega arith) refl in
    sets_rate n rate (record {
      facts = sym (ap (λ (o : Option Client). plain s.lists.me (rate_by (state_of o) n rate) ∷ []) found);
      goes = g ∙ ap (λ (z : List Fact). record { lists = after_all s.clock s.lists z; clock = s.clock }) e;
    })

connect-parted : (mode : ℕ → Mode) (s : Timed) (y : List Fact) (t : Timed) (f w : Fact) (k x : List Fact)
    (peer credits rate : ℕ) (o : Option Event) (b : Bool) → Valid s.lists → IsCredits credits
    → client_refusal credits s.lists ≡ o → (rate == 0) ≡ b
    → y ≡ (f ∷ k) ++ w ∷ x → y ≡ connect_by o peer credits rate s.lists → Goes s y t
    → Parted mode s (f ∷ k) (w ∷ x) t
connect-parted mode s y t f w k x peer credits rate (Some r) b v few ref z e facts g =
    absurd (one-alone (plain s.lists.me r) f w k x (sym facts ∙ e))
connect-parted mode s y t f w k x peer credits rate None true v few ref z e facts g =
    let one : y ≡ opened s.lists peer credits ∷ [] = rw z at facts in
    absurd (one-alone (opened s.lists peer credits) f w k x (sym one ∙ e))
connect-parted mode s y t f w k x peer credits rate None false v few ref z e facts g =
    let two : y ≡ opened s.lists peer credits ∷ rated s.lists rate ∷ [] = rw z at facts in
    let is = two-alone (opened s.lists peer credits) (rated s.lists rate) f w k x (sym two ∙ e) in
    let a = one-step mode s _ _ (opens-first mode s peer credits few ref) in
    let b = one-step mode (mid s peer credits) _ t (rates-next mode s peer credits rate y t v two g) in
    parts (record {
      between = mid s peer credits;
      first = rw (is.first, is.none) a;
      second = rw (is.second, is.last) b;
    })

pub parted : (mode : ℕ → Mode) (s : Timed) (y : List Fact) (t : Timed) (f w : Fact) (k x : List Fact)
    → Valid s.lists → y ≡ (f ∷ k) ++ w ∷ x → Group mode s y t → Parted mode s (f ∷ k) (w ∷ x) t
parted mode s y t f w k x v e (pairs_client peer server credits life may h) =
    absurd (one-alone _ f w k x (sym h.facts ∙ e))
parted mode s y t f w k x v e (pairs_server peer client credits life may h) =
    absurd (one-alone _ f w k x (sym h.facts ∙ e))
parted mode s y t f w k x v e (refuses credits few event r h) = absurd (one-alone _ f w k x (sym h.facts ∙ e))
parted mode s y t f w k x v e (connects peer credits rate few h) =
    connect-parted mode s y t f w k x peer credits rate (client_refusal credits s.lists) (rate == 0) v few refl
    refl e h.facts h.goes
parted mode s y t f w k x v e (disconnects session h) = absurd (one-alone _ f w k x (sym h.facts ∙ e))
parted mode s y t f w k x v e (sets_rate session rate h) = absurd (one-alone _ f w k x (sym h.facts ∙ e))
parted mode s y t f w k x v e (asks session req_type ask room h) =
    absurd (one-alone _ f w k x (sym h.facts ∙ e))
parted mode s y t f w k x v e (delivers peer bytes h) = absurd (one-alone _ f w k x (sym h.facts ∙ e))
parted mode s y t f w k x v e (polls now h) =
    in_poll s.lists.me (front-polls s.lists.me y (f ∷ k) x w t
    (poll-ending mode now s.lists.me s y t refl h) e)
parted mode s y t f w k x v e (works session request out h) = absurd (one-alone _ f w k x (sym h.facts ∙ e))
parted mode s y t f w k x v e (misses i h) = absurd (one-alone _ f w k x (sym h.facts ∙ e))

chain-join : (mode : ℕ → Mode) (s : Timed) {x : List Fact} {t : Timed} {y : List Fact} {u : Timed}
    → Chain (Group mode) s x t
    → Chain (Group mode) t y u → Chain (Group mode) s (x ++ y) u
chain-join mode s {x} {t} a none = subst (λ (z : List Fact). Chain (Group mode) s z t) (sym (append-nil x)) a
chain-join mode s {x} a (more {x = q} c z u p) =
    subst (λ (r : List Fact). Chain (Group mode) s r u) (append_assoc x q z)
    (more (chain-join mode s a c) z u p)

-- a chain of groups is cut where the node isn't in the midst of a poll
pub cut : (mode : ℕ → Mode) (s : Timed) {z : List Fact} {t : Timed} (g x : List Fact) → Valid s.lists
    → Chain (Group mode) s z t → z ≡ g ++ x → ends_open false g ≡ false → Split mode s g x t
cut mode s [] x v none e whole =
    record { between = s; first = none; second = subst (λ (q : List Fact). Chain (Group mode) s q s) e none }
cut mode s (f ∷ g) x v none e whole = absurd (empty e) where
  empty : [] ≡ f ∷ g ++ x → ⊥
  empty e = cc
cut mode s g x v (more {x = a} {t = b} c y u p) e whole =
    by-ways (λ k f. cut mode s g k v c f whole) (two-ways a y g x e)
  where
    in-group : (k : List Fact) → g ≡ a ++ k → y ≡ k ++ x → Split mode s g x u
    in-group [] gs ys = record {
      between = b;
      first = subst (λ (q : List Fact). Chain (Group mode) s q b) (sym (append-nil a) ∙ sym gs) c;
      second = subst (λ (q : List Fact). Chain (Group mode) b q u) ys (one-step mode b y u p);
    }
    in-group (f ∷ k) gs ys = at-rest x ys where
      at-rest : (r : List Fact) → y ≡ (f ∷ k) ++ r → Split mode s g r u
      at-rest [] es = record {
        between = u;
        first = subst (λ (q : List Fact). Chain (Group mode) s q u)
            (ap (λ (q : List Fact). a ++ q) (es ∙ append-nil (f ∷ k)) ∙ sym gs) (more c y u p);
        second = none;
      }
      at-rest (w ∷ r) es = by-parts (parted mode b y u f w k r (chain-valid mode s v c) es p) where
        by-parts : Parted mode b (f ∷ k) (w ∷ r) u → Split mode s g (w ∷ r) u
        by-parts (in_poll n all) =
            let busy : ends_open false g ≡ true =
            ap (ends_open false) gs ∙ (open-append false a (f ∷ k) ∙ polls-open n (ends_open false a) f k all) in
            absurd (true≢false (sym busy ∙ whole))
        by-parts (parts h) = record {
          between = h.between;
          first = subst (λ (q : List Fact). Chain (Group mode) s q h.between) (sym gs) (chain-join mode s c h.first);
          second = h.second;
        }

    by-ways : ((k : List Fact) → a ≡ g ++ k → Split mode s g k b) → TwoWays a y g x → Split mode s g x u
    by-ways ih (early k gs ys) = in-group k gs ys
    by-ways ih (late k front xs) =
        let before = ih k front in
        record {
          between = before.between;
          first = before.first;
          second = subst (λ (q : List Fact). Chain (Group mode) before.between q u) (sym xs)
              (more before.second y u p);
        }
