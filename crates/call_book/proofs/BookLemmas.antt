-- A book tells what is own, and tells a fact more once that is noted.
use Rattle.std.proofs.Common.{◌≡◌, ℕ, ◌==◌, ◌&&◌, Bool, true, false, cond, List, ◌∷◌, refl, sym, ap, ◌∙◌}
use Rattle.std.proofs.Common.{Option, Some, None}
use Rattle.std.specs.Prelude.{is_some, option_and_then, option_map}
use Rattle.rpc_base.specs.declared.event.Event.{Event}
use Rattle.rpc_base.specs.declared.event.Event.TheVariants.{Begun, DoneOk, DoneTooSmall, Ran}
use Rattle.rpc_base.specs.declared.fact.Who.{Who}
use Rattle.rpc_base.specs.declared.fact.Who.TheVariants.{Node}
use Rattle.rpc_laws.specs.AtMostOnce.{is_at}
use Rattle.rpc_laws.specs.Endpoints.{Endpoint, Lived}
use Rattle.lawful_history.proofs.OwnSound.{is-endpoint}
use Rattle.lawful_history.specs.Told.{Answer, answer_by, answer_event, answer_of, answer_on, answer_to, Ask}
use Rattle.lawful_history.specs.Told.{asks_so, asks_this, call_by, call_event, call_of, has_bytes, is_call_of}
use Rattle.lawful_history.specs.Told.{is_endpoint, is_joined, is_of, is_on, is_own, is_too_large, NodeCall, or_told}
use Rattle.lawful_history.specs.Told.{run_of, run_on, server_of, SessionEnd}
use Rattle.call_book.proofs.OrLemmas.{put-or}
use Rattle.call_book.specs.declared.book.Book.{Book}
use Rattle.call_book.specs.Kept.{answer_in, answer_on_in, answers_at, asks_in, begun_in, is_joined_in, is_own_in}
use Rattle.call_book.specs.Kept.{run_in, run_on_in}
use Rattle.call_book.specs.Requests.{begins_as, Beginning, call_kept, NotesCall}
use Rattle.call_book.specs.Shelf.{kept, Notes, Puts, told_at}
use Rattle.call_book.specs.Tells.{Tells}

then-same : {A B : Type 0} (f g : A → Option B) (o : Option A) → ((a : A) → f a ≡ g a)
    → option_and_then f o ≡ option_and_then g o
then-same f g None e = refl
then-same f g (Some a) e = e a

module _ (b : Book) (past : List Lived) (t : Tells b past) where
  joined-in : (n : Endpoint) (s : ℕ) (m : Endpoint) (k : ℕ) → is_joined_in b n s m k ≡ is_joined n s m k past
  joined-in n s m k = rw (t.paired n s, t.opened n s, t.connected n s) refl

  run-on-in : (m : Endpoint) (k r : ℕ) (c : SessionEnd) → run_on_in b m k r c ≡ run_on m k r past c
  run-on-in m k r c = rw (joined-in c.at c.session m k, t.calls c.at c.session r) refl

  run-in : (m : Endpoint) (k r : ℕ) → run_in b m k r ≡ run_of m k r past
  run-in m k r =
      ap (option_and_then (run_on_in b m k r)) (t.servers m k)
      ∙ then-same (run_on_in b m k r) (run_on m k r past) (server_of m k past) (run-on-in m k r)

  asks-in : (y : ℕ) (first : List ℕ) (o : Option NodeCall) → asks_in b y first o ≡ asks_so y first past o
  asks-in y first None = refl
  asks-in y first (Some k) = ap (asks_this k.session y first) (t.asks k.at k.call)

  -- what is own by the book
  pub own-in : (n : Endpoint) (e : Event) (first : List ℕ) → is_own_in b n e first ≡ is_own past n e first
  own-in n (Begun c r) first = ap is_some (t.asks n c)
  own-in n (Ran k r y) first =
      ap (asks_in b y first) (run-in n k r) ∙ asks-in y first (run_of n k r past)
  own-in n (DoneOk c) first = ap (has_bytes first) (t.answers n c)
  own-in n (DoneTooSmall c size) first = ap (is_too_large size) (t.answers n c)
  own-in n _ first = refl

  begun-in : (n : Endpoint) (s r : ℕ) (e : Event) → begun_in b n s r e ≡ call_event n s r past e
  begun-in n s r (Begun call request) =
      ap (λ (o : Option Ask). cond (request == r && is_on s o) (Some call) None) (t.asks n call)
  begun-in n s r _ = refl

  answer-on-in : (n : Endpoint) (c y : ℕ) (first second : List ℕ) (o : Option NodeCall)
      → answer_on_in b n c y first second o ≡ answer_on n c y first second past o
  answer-on-in n c y first second None = refl
  answer-on-in n c y first second (Some k) =
      ap (λ (o : Option Ask). cond (is_call_of n c k && asks_this k.session y first o)
      (option_map (answer_to second) o) None) (t.asks k.at k.call)

  answer-in : (m n : Endpoint) (c : ℕ) (e : Event) (first second : List ℕ)
      → answer_in b m n c e first second ≡ answer_event n c past m.life (Node m.node) e first second
  answer-in m n c (Ran k r y) first second =
      ap (answer_on_in b n c y first second) (run-in m k r)
      ∙ answer-on-in n c y first second (run_of m k r past)
  answer-in m n c _ first second = refl

  -- the next fact is of node m
  module _ (f : Lived) (m : ℕ) (who : f.fact.who ≡ Node m) where
    abbrev here : Endpoint
    here = record { node = m; life = f.life }

    of-node : (k : Endpoint) → is_of k f ≡ is_endpoint here k
    of-node k = ap (λ (w : Who). is_at k.node w && f.life == k.life) who

    pub shelf-next : {V : Type 0} (told : Option (ℕ × V)) (by before : Option V) (old new : List ((ℕ × ℕ × ℕ) × V))
        (k : Endpoint) (j : ℕ) → told_at j told ≡ by → Notes here told old new → kept old k j ≡ before
        → kept new k j ≡ or_told (cond (is_of k f) by None) before
    shelf-next {V} told by before old new k j same noted is =
        noted k j
        ∙ ap (λ (o : Option V). or_told (cond (is_endpoint here k) o None) (kept old k j)) same
        ∙ ap (λ (b : Bool). or_told (cond b by None) (kept old k j)) (sym (of-node k))
        ∙ ap (λ (o : Option V). or_told (cond (is_of k f) by None) o) is

    pub calls-next : (began : Option Beginning) (new : List ((ℕ × ℕ × ℕ × ℕ) × ℕ))
        → ((s r : ℕ) → begins_as s r began ≡ begun_in b here s r f.fact.event)
        → NotesCall here began b.calls new
        → (k : Endpoint) (s r : ℕ) → call_kept new k s r ≡ call_of k s r (f ∷ past)
    calls-next began new same noted k s r =
        noted k s r
        ∙ ap (λ (o : Option ℕ). or_told o (call_kept b.calls k s r)) (by (is_endpoint here k) refl)
        ∙ ap (or_told (call_by k s r past f)) (t.calls k s r)
      where
        by : (x : Bool) → is_endpoint here k ≡ x → cond x (begins_as s r began) None ≡ call_by k s r past f
        by true e =
            same s r ∙ begun-in here s r f.fact.event
            ∙ ap (λ (z : Endpoint). call_event z s r past f.fact.event) (is-endpoint here k e)
            ∙ sym (ap (λ (b : Bool). cond b (call_event k s r past f.fact.event) None) (of-node k ∙ e))
        by false e =
            sym (ap (λ (b : Bool). cond b (call_event k s r past f.fact.event) None) (of-node k ∙ e))

    answer-is : (z : Endpoint) (c : ℕ)
        → answer_in b here z c f.fact.event f.fact.first f.fact.second ≡ answer_by z c past f
    answer-is z c =
        answer-in here z c f.fact.event f.fact.first f.fact.second
        ∙ ap (λ (w : Who). answer_event z c past f.life w f.fact.event f.fact.first f.fact.second) (sym who)

    pub answers-put : (k : NodeCall) (a : Answer) (new : List ((ℕ × ℕ × ℕ) × Answer))
        → ((z : Endpoint) (c : ℕ) → answers_at z c (Some (k, a))
        ≡ answer_in b here z c f.fact.event f.fact.first f.fact.second)
        → Puts k.at k.call a b.answers new
        → (z : Endpoint) (c : ℕ) → kept new z c ≡ answer_of z c (f ∷ past)
    answers-put k a new told puts z c =
        puts z c ∙ put-or (is_call_of z c k) a (kept b.answers z c)
        ∙ ap (λ (o : Option Answer). or_told o (kept b.answers z c)) (told z c ∙ answer-is z c)
        ∙ ap (or_told (answer_by z c past f)) (t.answers z c)

    pub answers-none : ((z : Endpoint) (c : ℕ)
        → answers_at z c None ≡ answer_in b here z c f.fact.event f.fact.first f.fact.second)
        → (z : Endpoint) (c : ℕ) → kept b.answers z c ≡ answer_of z c (f ∷ past)
    answers-none told z c =
        ap (λ (o : Option Answer). or_told o (kept b.answers z c)) (told z c ∙ answer-is z c)
        ∙ ap (or_told (answer_by z c past f)) (t.answers z c)
