-- The tracks of a history stand side by side with its copies in flight.
use Rattle.std.proofs.Common.{◌≡◌, ℕ, zero, suc, ◌+◌, ◌⊎◌, inl, inr, List, [], ◌∷◌, ◌++◌, map}
use Rattle.std.proofs.Common.{Option}
use Rattle.std.proofs.Common.{Some, None, refl, ap, subst, length, take, arith}
use Rattle.std.specs.Prelude.{option_to_list, slice_get}
use Rattle.std.specs.List.{remove}
use Rattle.rpc_base.specs.declared.event.Event.{Event}
use Rattle.rpc_base.specs.declared.event.Event.TheVariants.{Sent, Carried, Lost, Repeated}
use Rattle.rpc_base.specs.declared.fact.Fact.{Fact}
use Rattle.rpc_base.specs.declared.fact.Who.{Who}
use Rattle.rpc_base.specs.declared.fact.Who.TheVariants.{Node, Net}
use Rattle.rpc_laws.specs.declared.tables.InFlight.{InFlight}
use Rattle.rpc_laws.specs.InFlight.{flight_after, flight_after_all, flight_after_net}
use Rattle.rpc_laws.specs.InFlight.{flight_after_node, flight_at}
use Rattle.sequence_picture.specs.declared.things.Track.{Track}
use Rattle.sequence_picture.specs.Copies.{IsRepeat, IsSending}
use Rattle.sequence_picture.specs.Tracks.{repeated_at, tracks_after, tracks_after_all}
use Rattle.sequence_picture.specs.Tracks.{tracks_after_net}
use Rattle.sequence_picture.specs.Tracks.{tracks_after_node, tracks_by}

abbrev pub Put : List Fact → Track → InFlight → Type 0
Put h t copy = (t.put ≡ t.sent) ⊎ IsRepeat h t.put copy

-- what is in flight when a fact comes
abbrev Before : List Fact → ℕ → List InFlight → Type 0
Before h i cs = cs ≡ flight_after_all [] (take i h)

-- a track is that of a copy
abbrev pub IsTrack : List Fact → Track → InFlight → Type 0
IsTrack h t copy = IsSending h t.sent copy × Put h t copy

abbrev pub Sides : List Fact → List Track → List InFlight → Type 0
Sides h [] [] = Unit {0}
Sides h (t ∷ ts) (c ∷ cs) = IsTrack h t c × Sides h ts cs
Sides h [] (c ∷ cs) = ⊥
Sides h (t ∷ ts) [] = ⊥

-- the copy of a track
pub record One (h : List Fact) (cs : List InFlight) (n : ℕ) (t : Track) : Type 0 where
  pub copy : InFlight
  pub at : slice_get cs n ≡ Some copy
  pub is_track : IsTrack h t copy

pub side-get : (h : List Fact) (ts : List Track) (cs : List InFlight) (n : ℕ) (t : Track)
    → Sides h ts cs
    → slice_get ts n ≡ Some t → One h cs n t
side-get h [] [] n t s e = cc
side-get h [] (c ∷ cs) n t s e = absurd s
side-get h (u ∷ ts) [] n t s e = absurd s
side-get h (u ∷ ts) (c ∷ cs) zero t s e =
    let same : u ≡ t = cc in
    record { copy = c; at = refl; is_track = subst (λ (v : Track). IsTrack h v c) same s.0 }
side-get h (u ∷ ts) (c ∷ cs) (suc n) t s e =
    let one = side-get h ts cs n t s.1 e in
    record { copy = one.copy; at = one.at; is_track = one.is_track }

side-none : (h : List Fact) (ts : List Track) (cs : List InFlight) (n : ℕ) → Sides h ts cs
    → slice_get ts n ≡ None → slice_get cs n ≡ None
side-none h [] [] n s e = refl
side-none h [] (c ∷ cs) n s e = absurd s
side-none h (u ∷ ts) [] n s e = absurd s
side-none h (u ∷ ts) (c ∷ cs) zero s e = cc
side-none h (u ∷ ts) (c ∷ cs) (suc n) s e = side-none h ts cs n s.1 e

side-append : (h : List Fact) (ts us : List Track) (cs ds : List InFlight) → Sides h ts cs
    → Sides h us ds → Sides h (ts ++ us) (cs ++ ds)
side-append h [] us [] ds s r = r
side-append h [] us (c ∷ cs) ds s r = absurd s
side-append h (t ∷ ts) us [] ds s r = absurd s
side-append h (t ∷ ts) us (c ∷ cs) ds s r = (s.0, side-append h ts us cs ds s.1 r)

side-remove : (h : List Fact) (ts : List Track) (cs : List InFlight) (n : ℕ) → Sides h ts cs
    → Sides h (remove ts n) (remove cs n)
side-remove h [] [] zero s = tt
side-remove h [] [] (suc n) s = tt
side-remove h [] (c ∷ cs) n s = absurd s
side-remove h (t ∷ ts) [] n s = absurd s
side-remove h (t ∷ ts) (c ∷ cs) zero s = s.1
side-remove h (t ∷ ts) (c ∷ cs) (suc n) s = (s.0, side-remove h ts cs n s.1)

-- a repeat stands beside the copy that it repeats
side-repeat : (h : List Fact) (ts : List Track) (cs : List InFlight) (i c : ℕ) (o : Option Track)
    → (f : Fact) → slice_get h i ≡ Some f → f.who ≡ Net → f.event ≡ Repeated c → Before h i cs
    → Sides h ts cs → slice_get ts c ≡ o
    → Sides h (ts ++ map (repeated_at i) (option_to_list o)) (cs ++ option_to_list (slice_get cs c))
side-repeat h ts cs i c None f at who is now s e =
    rw (side-none h ts cs c s e) (side-append h ts [] cs [] s tt)
side-repeat h ts cs i c (Some t) f at who is now s e =
    let one = side-get h ts cs c t s e in
    let there : slice_get (flight_after_all [] (take i h)) c ≡ Some one.copy =
    subst (λ (ds : List InFlight). slice_get ds c ≡ Some one.copy) now one.at in
    let again : IsRepeat h i one.copy =
    record { fact = f; number = c; at = at; who = who; event = is; again = there } in
    rw one.at (side-append h ts (repeated_at i t ∷ []) cs (one.copy ∷ []) s
    ((one.is_track.0, inr again), tt))

abbrev copy_of : ℕ → ℕ → List ℕ → List ℕ → InFlight
copy_of n peer head body = record { from = n; to = peer; bytes = head ++ body }

sending : (h : List Fact) (i n peer number : ℕ) (f : Fact) (event : Event) → slice_get h i ≡ Some f
    → f.who ≡ Node n → f.event ≡ event
    → flight_after_node n event f.first f.second [] ≡ copy_of n peer f.first f.second ∷ []
    → IsSending h i (copy_of n peer f.first f.second)
sending h i n peer number f event at who is e =
    record { fact = f; at = at; sends = rw (who, is) e }

side-node : (h : List Fact) (i n : ℕ) (f : Fact) (event : Event) (ts : List Track) (cs : List InFlight)
    → slice_get h i ≡ Some f → f.who ≡ Node n → f.event ≡ event → Sides h ts cs
    → Sides h (tracks_after_node i event ts) (flight_after_node n event f.first f.second cs)
side-node h i n f (Sent peer owner number) ts cs at who is s =
    let sends = sending h i n peer number f (Sent peer owner number) at who is refl in
    side-append h ts (record { sent = i; put = i } ∷ []) cs (copy_of n peer f.first f.second ∷ []) s
    ((sends, inl refl), tt)
side-node h i n f _ ts cs at who is s = s

side-net : (h : List Fact) (i : ℕ) (f : Fact) (event : Event) (ts : List Track) (cs : List InFlight)
    → slice_get h i ≡ Some f → f.who ≡ Net → f.event ≡ event → Before h i cs → Sides h ts cs
    → Sides h (tracks_after_net i event ts) (flight_after_net event cs)
side-net h i f (Repeated c) ts cs at who is now s =
    side-repeat h ts cs i c (slice_get ts c) f at who is now s refl
side-net h i f (Carried c) ts cs at who is now s = side-remove h ts cs c s
side-net h i f (Lost c) ts cs at who is now s = side-remove h ts cs c s
side-net h i f _ ts cs at who is now s = s

side-by : (h : List Fact) (i : ℕ) (f : Fact) (who : Who) (ts : List Track) (cs : List InFlight)
    → slice_get h i ≡ Some f → f.who ≡ who → Before h i cs → Sides h ts cs
    → Sides h (tracks_by i who f.event ts) (flight_at who f.event f.first f.second cs)
side-by h i f (Node n) ts cs at who now s = side-node h i n f f.event ts cs at who refl s
side-by h i f Net ts cs at who now s = side-net h i f f.event ts cs at who refl now s

-- one fact more
pub side-step : (h : List Fact) (i : ℕ) (f : Fact) (ts : List Track) (cs : List InFlight)
    → slice_get h i ≡ Some f → cs ≡ flight_after_all [] (take i h) → Sides h ts cs
    → Sides h (tracks_after i f ts) (flight_after cs f)
side-step h i f ts cs at now s = side-by h i f f.who ts cs at refl now s

pub tracks-more : (xs : List Fact) (f : Fact) (i place : ℕ) (ts : List Track)
    → i + length xs ≡ place
    → tracks_after_all i (xs ++ f ∷ []) ts ≡ tracks_after place f (tracks_after_all i xs ts)
tracks-more [] f i place ts e =
    let same : i ≡ place = omega arith in ap (λ (k : ℕ). tracks_after k f ts) same
tracks-more (x ∷ xs) f i place ts e =
    tracks-more xs f (i + 1) place (tracks_after i x ts) (omega arith)

pub flight-more : (xs : List Fact) (f : Fact) (cs : List InFlight)
    → flight_after_all cs (xs ++ f ∷ []) ≡ flight_after (flight_after_all cs xs) f
flight-more [] f cs = refl
flight-more (x ∷ xs) f cs = flight-more xs f (flight_after cs x)
