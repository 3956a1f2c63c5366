-- The words of the line of an event, and the event that such words tell.
use Rattle.std.proofs.Common.{◌≡◌, ℕ, ◌+◌, cond, List, [], ◌∷◌, ◌++◌, refl, ap, ◌∙◌, append_assoc}
use Rattle.std.specs.Prelude.{codes, decimal}
use Rattle.rpc_base.specs.declared.event.Event.{Event}
use Rattle.rpc_base.specs.declared.event.Event.TheVariants.{Made, Opened, PairedClient}
use Rattle.rpc_base.specs.declared.event.Event.TheVariants.{PairedServer, NconnectRing}
use Rattle.rpc_base.specs.declared.event.Event.TheVariants.{NconnectNumbers, Accepted, Declined}
use Rattle.rpc_base.specs.declared.event.Event.TheVariants.{Starved, Connected, FailedNoRoom}
use Rattle.rpc_base.specs.declared.event.Event.TheVariants.{FailedNoAnswer, Closing, NcloseState}
use Rattle.rpc_base.specs.declared.event.Event.TheVariants.{NcloseBusy, ClosedHeard, ClosedUnheard}
use Rattle.rpc_base.specs.declared.event.Event.TheVariants.{Ended, Broken, Rated, Nrate, Asked}
use Rattle.rpc_base.specs.declared.event.Event.TheVariants.{NcallTooLarge, NcallState, Begun}
use Rattle.rpc_base.specs.declared.event.Event.TheVariants.{Posted, Flushed, Sent, Unsent, Arrived}
use Rattle.rpc_base.specs.declared.event.Event.TheVariants.{Overflowed, Bad, Heard, Took, Again}
use Rattle.rpc_base.specs.declared.event.Event.TheVariants.{Dropped, Given, Worked, Ran, Rolled}
use Rattle.rpc_base.specs.declared.event.Event.TheVariants.{DoneOk, DoneTooSmall, DonePeerLost}
use Rattle.rpc_base.specs.declared.event.Event.TheVariants.{Polled, Missed, Carried, Lost, Repeated}
use Rattle.rpc_base.specs.declared.event.Event.TheVariants.{Ticked, Restarted}
use Rattle.rpc_base.specs.declared.owner.Owner.{Owner}
use Rattle.rpc_base.specs.declared.owner.Owner.TheVariants.{Ask, Reply, Control}
use Rattle.report_text.specs.Names.{owner_text, state_text, reason_text, bytes_text}
use Rattle.report_text.specs.Ranges.{EventFits}
use Rattle.report_text.specs.Shape.{tail_of}
use Rattle.report_text.specs.Text.{event_text}
use Rattle.report_text.specs.Told.{NoOthers}
use Rattle.report_text.proofs.LineWords.{joined, AllWords, same, word}
use Rattle.report_text.proofs.WordsBack.{value, number-word, number-back, bytes_of, bytes-word}
use Rattle.report_text.proofs.WordsBack.{bytes-back, state_of, state-word, state-back, not-busy}
use Rattle.report_text.proofs.WordsBack.{not-toolarge, reason_of, reason-word, reason-back}

-- the words of the line of an event
abbrev pub event_words : Event → List ℕ → List ℕ → List (List ℕ)
event_words (Made ring) first second = codes "made" ∷ codes "ring" ∷ decimal ring ∷ []
event_words (Restarted life) first second = codes "restarted" ∷ decimal life ∷ []
event_words (Opened session peer credits) first second =
    codes "opened" ∷ decimal session ∷ codes "peer" ∷ decimal peer ∷ codes "credits"
    ∷ decimal credits ∷ []
event_words (PairedClient session peer server credits life) first second =
    codes "paired" ∷ codes "client" ∷ decimal session ∷ codes "peer" ∷ decimal peer ∷ codes "with"
    ∷ decimal server ∷ codes "credits" ∷ decimal credits ∷ codes "life" ∷ decimal life ∷ []
event_words (PairedServer session peer client credits life) first second =
    codes "paired" ∷ codes "server" ∷ decimal session ∷ codes "peer" ∷ decimal peer ∷ codes "with"
    ∷ decimal client ∷ codes "credits" ∷ decimal credits ∷ codes "life" ∷ decimal life ∷ []
event_words (NconnectRing shares credits ring) first second =
    codes "nconnect" ∷ codes "ring" ∷ decimal shares ∷ decimal credits ∷ decimal ring ∷ []
event_words NconnectNumbers first second = codes "nconnect" ∷ codes "numbers" ∷ []
event_words (Accepted session peer client credits life) first second =
    codes "accepted" ∷ decimal session ∷ codes "peer" ∷ decimal peer ∷ codes "for" ∷ decimal client
    ∷ codes "credits" ∷ decimal credits ∷ codes "life" ∷ decimal life ∷ []
event_words (Declined peer client credits) first second =
    codes "declined" ∷ codes "peer" ∷ decimal peer ∷ codes "for" ∷ decimal client ∷ codes "credits"
    ∷ decimal credits ∷ []
event_words (Starved peer client credits) first second =
    codes "starved" ∷ codes "peer" ∷ decimal peer ∷ codes "for" ∷ decimal client ∷ codes "credits"
    ∷ decimal credits ∷ []
event_words (Connected session server life) first second =
    codes "connected" ∷ decimal session ∷ codes "with" ∷ decimal server ∷ codes "life"
    ∷ decimal life ∷ []
event_words (FailedNoRoom session) first second = codes "failed" ∷ decimal session ∷ codes "noroom" ∷ []
event_words (FailedNoAnswer session) first second = codes "failed" ∷ decimal session ∷ codes "noanswer" ∷ []
event_words (Closing session) first second = codes "closing" ∷ decimal session ∷ []
event_words (NcloseState session state) first second = codes "nclose" ∷ decimal session ∷ state_text state ∷ []
event_words (NcloseBusy session calls) first second =
    codes "nclose" ∷ decimal session ∷ codes "busy" ∷ decimal calls ∷ []
event_words (ClosedHeard session) first second = codes "closed" ∷ decimal session ∷ codes "heard" ∷ []
event_words (ClosedUnheard session) first second = codes "closed" ∷ decimal session ∷ codes "unheard" ∷ []
event_words (Ended session) first second = codes "ended" ∷ decimal session ∷ []
event_words (Broken session) first second = codes "broken" ∷ decimal session ∷ []
event_words (Rated session rate) first second = codes "rated" ∷ decimal session ∷ decimal rate ∷ []
event_words (Nrate session state) first second = codes "nrate" ∷ decimal session ∷ state_text state ∷ []
event_words (Asked call session req_type room) first second =
    codes "asked" ∷ decimal call ∷ codes "on" ∷ decimal session ∷ codes "type" ∷ decimal req_type
    ∷ codes "room" ∷ decimal room ∷ bytes_text first ∷ []
event_words (NcallTooLarge session len) first second =
    codes "ncall" ∷ decimal session ∷ codes "toolarge" ∷ decimal len ∷ []
event_words (NcallState session state) first second = codes "ncall" ∷ decimal session ∷ state_text state ∷ []
event_words (Begun call request) first second = codes "begun" ∷ decimal call ∷ codes "as" ∷ decimal request ∷ []
event_words (Posted (Ask client request) number) first second =
    codes "posted" ∷ codes "c" ∷ decimal client ∷ decimal request ∷ decimal number ∷ []
event_words (Posted (Reply server request) number) first second =
    codes "posted" ∷ codes "s" ∷ decimal server ∷ decimal request ∷ decimal number ∷ []
event_words (Posted Control number) first second =
    codes "posted" ∷ codes "k" ∷ codes "0" ∷ codes "0" ∷ decimal number ∷ []
event_words (Flushed (Ask client request) number) first second =
    codes "flushed" ∷ codes "c" ∷ decimal client ∷ decimal request ∷ decimal number ∷ []
event_words (Flushed (Reply server request) number) first second =
    codes "flushed" ∷ codes "s" ∷ decimal server ∷ decimal request ∷ decimal number ∷ []
event_words (Flushed Control number) first second =
    codes "flushed" ∷ codes "k" ∷ codes "0" ∷ codes "0" ∷ decimal number ∷ []
event_words (Sent peer (Ask client request) number) first second =
    codes "sent" ∷ decimal peer ∷ codes "c" ∷ decimal client ∷ decimal request ∷ decimal number
    ∷ bytes_text first ∷ bytes_text second ∷ []
event_words (Sent peer (Reply server request) number) first second =
    codes "sent" ∷ decimal peer ∷ codes "s" ∷ decimal server ∷ decimal request ∷ decimal number
    ∷ bytes_text first ∷ bytes_text second ∷ []
event_words (Sent peer Control number) first second =
    codes "sent" ∷ decimal peer ∷ codes "k" ∷ codes "0" ∷ codes "0" ∷ decimal number
    ∷ bytes_text first ∷ bytes_text second ∷ []
event_words (Unsent peer) first second = codes "unsent" ∷ decimal peer ∷ bytes_text first ∷ []
event_words (Arrived peer) first second = codes "arrived" ∷ decimal peer ∷ bytes_text first ∷ []
event_words (Overflowed peer) first second = codes "overflowed" ∷ decimal peer ∷ bytes_text first ∷ []
event_words (Bad peer) first second = codes "bad" ∷ decimal peer ∷ bytes_text first ∷ []
event_words Heard first second = codes "heard" ∷ []
event_words (Took (Ask client request) number) first second =
    codes "took" ∷ codes "c" ∷ decimal client ∷ decimal request ∷ decimal number ∷ []
event_words (Took (Reply server request) number) first second =
    codes "took" ∷ codes "s" ∷ decimal server ∷ decimal request ∷ decimal number ∷ []
event_words (Took Control number) first second =
    codes "took" ∷ codes "k" ∷ codes "0" ∷ codes "0" ∷ decimal number ∷ []
event_words (Again (Ask client request) number) first second =
    codes "again" ∷ codes "c" ∷ decimal client ∷ decimal request ∷ decimal number ∷ []
event_words (Again (Reply server request) number) first second =
    codes "again" ∷ codes "s" ∷ decimal server ∷ decimal request ∷ decimal number ∷ []
event_words (Again Control number) first second =
    codes "again" ∷ codes "k" ∷ codes "0" ∷ codes "0" ∷ decimal number ∷ []
event_words (Dropped reason) first second = codes "dropped" ∷ reason_text reason ∷ []
event_words (Given session request) first second = codes "given" ∷ decimal session ∷ decimal request ∷ []
event_words (Worked session request) first second = codes "worked" ∷ decimal session ∷ decimal request ∷ []
event_words (Ran session request req_type) first second =
    codes "ran" ∷ decimal session ∷ decimal request ∷ codes "type" ∷ decimal req_type
    ∷ bytes_text first ∷ bytes_text second ∷ []
event_words (Rolled call posted got) first second = codes "rolled" ∷ decimal call ∷ decimal posted ∷ decimal got ∷ []
event_words (DoneOk call) first second = codes "done" ∷ decimal call ∷ codes "ok" ∷ bytes_text first ∷ []
event_words (DoneTooSmall call size) first second = codes "done" ∷ decimal call ∷ codes "toosmall" ∷ decimal size ∷ []
event_words (DonePeerLost call) first second = codes "done" ∷ decimal call ∷ codes "peerlost" ∷ []
event_words (Polled now) first second = codes "polled" ∷ decimal now ∷ []
event_words (Missed number) first second = codes "missed" ∷ decimal number ∷ []
event_words (Carried copy) first second = codes "carried" ∷ decimal copy ∷ []
event_words (Lost copy) first second = codes "lost" ∷ decimal copy ∷ []
event_words (Repeated copy) first second = codes "repeated" ∷ decimal copy ∷ []
event_words (Ticked by) first second = codes "ticked" ∷ decimal by ∷ []

sent-text : (p o n f g : List ℕ)
    → codes "sent " ++ p ++ codes " " ++ o ++ codes " " ++ n ++ codes " " ++ f ++ codes " " ++ g
    ≡ codes "sent " ++ (p ++ 32 ∷ (o ++ 32 ∷ (n ++ 32 ∷ (f ++ 32 ∷ g))))
sent-text p o n f g = simp append_assoc refl

owner-then : (k a b z : List ℕ) → (k ++ a ++ codes " " ++ b) ++ z ≡ k ++ (a ++ 32 ∷ (b ++ z))
owner-then k a b z = simp append_assoc refl

-- they are the words of its text
pub words-text : (event : Event) (first second : List ℕ)
    → event_text event first second ≡ joined (event_words event first second)
unfolding event_text
words-text (Made ring) first second = refl
words-text (Restarted life) first second = refl
words-text (Opened session peer credits) first second = simp append_assoc refl
words-text (PairedClient session peer server credits life) first second = simp append_assoc refl
words-text (PairedServer session peer client credits life) first second = simp append_assoc refl
words-text (NconnectRing shares credits ring) first second = simp append_assoc refl
words-text NconnectNumbers first second = refl
words-text (Accepted session peer client credits life) first second = simp append_assoc refl
words-text (Declined peer client credits) first second = simp append_assoc refl
words-text (Starved peer client credits) first second = simp append_assoc refl
words-text (Connected session server life) first second = simp append_assoc refl
words-text (FailedNoRoom session) first second = simp append_assoc refl
words-text (FailedNoAnswer session) first second = simp append_assoc refl
words-text (Closing session) first second = refl
words-text (NcloseState session state) first second = simp append_assoc refl
words-text (NcloseBusy session calls) first second = simp append_assoc refl
words-text (ClosedHeard session) first second = simp append_assoc refl
words-text (ClosedUnheard session) first second = simp append_assoc refl
words-text (Ended session) first second = refl
words-text (Broken session) first second = refl
words-text (Rated session rate) first second = simp append_assoc refl
words-text (Nrate session state) first second = simp append_assoc refl
words-text (Asked call session req_type room) first second = simp append_assoc refl
words-text (NcallTooLarge session len) first second = simp append_assoc refl
words-text (NcallState session state) first second = simp append_assoc refl
words-text (Begun call request) first second = simp append_assoc refl
words-text (Posted (Ask client request) number) first second = simp append_assoc refl
words-text (Posted (Reply server request) number) first second = simp append_assoc refl
words-text (Posted Control number) first second = refl
words-text (Flushed (Ask client request) number) first second = simp append_assoc refl
words-text (Flushed (Reply server request) number) first second = simp append_assoc refl
words-text (Flushed Control number) first second = refl
words-text (Sent peer (Ask client request) number) first second =
    sent-text (decimal peer) (owner_text (Ask client request)) (decimal number) (bytes_text first)
    (bytes_text second) ∙ ap (λ t. codes "sent " ++ (decimal peer ++ 32 ∷ t))
    (owner-then (codes "c ") (decimal client) (decimal request)
    (32 ∷ (decimal number ++ 32 ∷ (bytes_text first ++ 32 ∷ bytes_text second))))
words-text (Sent peer (Reply server request) number) first second =
    sent-text (decimal peer) (owner_text (Reply server request)) (decimal number) (bytes_text first)
    (bytes_text second) ∙ ap (λ t. codes "sent " ++ (decimal peer ++ 32 ∷ t))
    (owner-then (codes "s ") (decimal server) (decimal request)
    (32 ∷ (decimal number ++ 32 ∷ (bytes_text first ++ 32 ∷ bytes_text second))))
words-text (Sent peer Control number) first second = simp append_assoc refl
words-text (Unsent peer) first second = simp append_assoc refl
words-text (Arrived peer) first second = simp append_assoc refl
words-text (Overflowed peer) first second = simp append_assoc refl
words-text (Bad peer) first second = simp append_assoc refl
words-text Heard first second = refl
words-text (Took (Ask client request) number) first second = simp append_assoc refl
words-text (Took (Reply server request) number) first second = simp append_assoc refl
words-text (Took Control number) first second = refl
words-text (Again (Ask client request) number) first second = simp append_assoc refl
words-text (Again (Reply server request) number) first second = simp append_assoc refl
words-text (Again Control number) first second = refl
words-text (Dropped reason) first second = refl
words-text (Given session request) first second = simp append_assoc refl
words-text (Worked session request) first second = simp append_assoc refl
words-text (Ran session request req_type) first second = simp append_assoc refl
words-text (Rolled call posted got) first second = simp append_assoc refl
words-text (DoneOk call) first second = simp append_assoc refl
words-text (DoneTooSmall call size) first second = simp append_assoc refl
words-text (DonePeerLost call) first second = simp append_assoc refl
words-text (Polled now) first second = refl
words-text (Missed number) first second = refl
words-text (Carried copy) first second = refl
words-text (Lost copy) first second = refl
words-text (Repeated copy) first second = refl
words-text (Ticked by) first second = refl

-- each of them is a word
pub words-words : (event : Event) (first second : List ℕ) → EventFits event
    → AllWords (event_words event first second)
words-words (Made ring) first second h = ((refl, refl), ((refl, refl), (number-word ring h, tt)))
words-words (Restarted life) first second h = ((refl, refl), (number-word life h, tt))
words-words (Opened session peer credits) first second h = (
  (refl, refl),
  (
    number-word session h.0,
    (
      (refl, refl),
      (number-word peer h.1, ((refl, refl), (number-word credits h.2, tt))),
    ),
  ),
)
words-words (PairedClient session peer server credits life) first second h = (
  (refl, refl),
  (
    (refl, refl),
    (
      number-word session h.0,
      (
        (refl, refl),
        (
          number-word peer h.1,
          (
            (refl, refl),
            (number-word server h.2, ((refl, refl), (number-word credits h.3, ((refl, refl), (number-word life h.4, tt))))),
          ),
        ),
      ),
    ),
  ),
)
words-words (PairedServer session peer client credits life) first second h = (
  (refl, refl),
  (
    (refl, refl),
    (
      number-word session h.0,
      (
        (refl, refl),
        (
          number-word peer h.1,
          (
            (refl, refl),
            (number-word client h.2, ((refl, refl), (number-word credits h.3, ((refl, refl), (number-word life h.4, tt))))),
          ),
        ),
      ),
    ),
  ),
)
words-words (NconnectRing shares credits ring) first second h = (
  (refl, refl),
  (
    (refl, refl),
    (
      number-word shares h.0,
      (number-word credits h.1, (number-word ring h.2, tt)),
    ),
  ),
)
words-words NconnectNumbers first second h = ((refl, refl), ((refl, refl), tt))
words-words (Accepted session peer client credits life) first second h = (
  (refl, refl),
  (
    number-word session h.0,
    (
      (refl, refl),
      (
        number-word peer h.1,
        (
          (refl, refl),
          (
            number-word client h.2,
            ((refl, refl), (number-word credits h.3, ((refl, refl), (number-word life h.4, tt)))),
          ),
        ),
      ),
    ),
  ),
)
words-words (Declined peer client credits) first second h = (
  (refl, refl),
  (
    (refl, refl),
    (
      number-word peer h.0,
      ((refl, refl), (number-word client h.1, ((refl, refl), (number-word credits h.2, tt)))),
    ),
  ),
)
words-words (Starved peer client credits) first second h = (
  (refl, refl),
  (
    (refl, refl),
    (
      number-word peer h.0,
      ((refl, refl), (number-word client h.1, ((refl, refl), (number-word credits h.2, tt)))),
    ),
  ),
)
words-words (Connected session server life) first second h = (
  (refl, refl),
  (
    number-word session h.0,
    (
      (refl, refl),
      (
        number-word server h.1,
        ((refl, refl), (number-word life h.2, tt)),
      ),
    ),
  ),
)
words-words (FailedNoRoom session) first second h = ((refl, refl), (number-word session h, ((refl, refl), tt)))
words-words (FailedNoAnswer session) first second h = ((refl, refl), (number-word session h, ((refl, refl), tt)))
words-words (Closing session) first second h = ((refl, refl), (number-word session h, tt))
words-words (NcloseState session state) first second h =
    ((refl, refl), (number-word session h, (state-word state, tt)))
words-words (NcloseBusy session calls) first second h =
    ((refl, refl), (number-word session h.0, ((refl, refl), (number-word calls h.1, tt))))
words-words (ClosedHeard session) first second h = ((refl, refl), (number-word session h, ((refl, refl), tt)))
words-words (ClosedUnheard session) first second h = ((refl, refl), (number-word session h, ((refl, refl), tt)))
words-words (Ended session) first second h = ((refl, refl), (number-word session h, tt))
words-words (Broken session) first second h = ((refl, refl), (number-word session h, tt))
words-words (Rated session rate) first second h =
    ((refl, refl), (number-word session h.0, (number-word rate h.1, tt)))
words-words (Nrate session state) first second h = ((refl, refl), (number-word session h, (state-word state, tt)))
words-words (Asked call session req_type room) first second h = (
  (refl, refl),
  (
    number-word call h.0,
    (
      (refl, refl),
      (
        number-word session h.1,
        (
          (refl, refl),
          (
            number-word req_type h.2,
            ((refl, refl), (number-word room h.3, (bytes-word first, tt))),
          ),
        ),
      ),
    ),
  ),
)
words-words (NcallTooLarge session len) first second h =
    ((refl, refl), (number-word session h.0, ((refl, refl), (number-word len h.1, tt))))
words-words (NcallState session state) first second h =
    ((refl, refl), (number-word session h, (state-word state, tt)))
words-words (Begun call request) first second h =
    ((refl, refl), (number-word call h.0, ((refl, refl), (number-word request h.1, tt))))
words-words (Posted (Ask client request) number) first second h = (
  (refl, refl),
  (
    (refl, refl),
    (
      number-word client h.0.0,
      (number-word request h.0.1, (number-word number h.1, tt)),
    ),
  ),
)
words-words (Posted (Reply server request) number) first second h = (
  (refl, refl),
  (
    (refl, refl),
    (
      number-word server h.0.0,
      (number-word request h.0.1, (number-word number h.1, tt)),
    ),
  ),
)
words-words (Posted Control number) first second h =
    ((refl, refl), ((refl, refl), ((refl, refl), ((refl, refl), (number-word number h.1, tt)))))
words-words (Flushed (Ask client request) number) first second h = (
  (refl, refl),
  (
    (refl, refl),
    (
      number-word client h.0.0,
      (number-word request h.0.1, (number-word number h.1, tt)),
    ),
  ),
)
words-words (Flushed (Reply server request) number) first second h = (
  (refl, refl),
  (
    (refl, refl),
    (
      number-word server h.0.0,
      (number-word request h.0.1, (number-word number h.1, tt)),
    ),
  ),
)
words-words (Flushed Control number) first second h =
    ((refl, refl), ((refl, refl), ((refl, refl), ((refl, refl), (number-word number h.1, tt)))))
words-words (Sent peer (Ask client request) number) first second h = (
  (refl, refl),
  (
    number-word peer h.0,
    (
      (refl, refl),
      (
        number-word client h.1.0,
        (
          number-word request h.1.1,
          (number-word number h.2, (bytes-word first, (bytes-word second, tt))),
        ),
      ),
    ),
  ),
)
words-words (Sent peer (Reply server request) number) first second h = (
  (refl, refl),
  (
    number-word peer h.0,
    (
      (refl, refl),
      (
        number-word server h.1.0,
        (
          number-word request h.1.1,
          (number-word number h.2, (bytes-word first, (bytes-word second, tt))),
        ),
      ),
    ),
  ),
)
words-words (Sent peer Control number) first second h = (
  (refl, refl),
  (
    number-word peer h.0,
    (
      (refl, refl),
      (
        (refl, refl),
        (
          (refl, refl),
          (
            number-word number h.2,
            (bytes-word first, (bytes-word second, tt)),
          ),
        ),
      ),
    ),
  ),
)
words-words (Unsent peer) first second h = ((refl, refl), (number-word peer h, (bytes-word first, tt)))
words-words (Arrived peer) first second h = ((refl, refl), (number-word peer h, (bytes-word first, tt)))
words-words (Overflowed peer) first second h = ((refl, refl), (number-word peer h, (bytes-word first, tt)))
words-words (Bad peer) first second h = ((refl, refl), (number-word peer h, (bytes-word first, tt)))
words-words Heard first second h = ((refl, refl), tt)
words-words (Took (Ask client request) number) first second h = (
  (refl, refl),
  (
    (refl, refl),
    (
      number-word client h.0.0,
      (number-word request h.0.1, (number-word number h.1, tt)),
    ),
  ),
)
words-words (Took (Reply server request) number) first second h = (
  (refl, refl),
  (
    (refl, refl),
    (
      number-word server h.0.0,
      (number-word request h.0.1, (number-word number h.1, tt)),
    ),
  ),
)
words-words (Took Control number) first second h =
    ((refl, refl), ((refl, refl), ((refl, refl), ((refl, refl), (number-word number h.1, tt)))))
words-words (Again (Ask client request) number) first second h = (
  (refl, refl),
  (
    (refl, refl),
    (
      number-word client h.0.0,
      (number-word request h.0.1, (number-word number h.1, tt)),
    ),
  ),
)
words-words (Again (Reply server request) number) first second h = (
  (refl, refl),
  (
    (refl, refl),
    (
      number-word server h.0.0,
      (number-word request h.0.1, (number-word number h.1, tt)),
    ),
  ),
)
words-words (Again Control number) first second h =
    ((refl, refl), ((refl, refl), ((refl, refl), ((refl, refl), (number-word number h.1, tt)))))
words-words (Dropped reason) first second h = ((refl, refl), (reason-word reason, tt))
words-words (Given session request) first second h =
    ((refl, refl), (number-word session h.0, (number-word request h.1, tt)))
words-words (Worked session request) first second h =
    ((refl, refl), (number-word session h.0, (number-word request h.1, tt)))
words-words (Ran session request req_type) first second h = (
  (refl, refl),
  (
    number-word session h.0,
    (
      number-word request h.1,
      ((refl, refl), (number-word req_type h.2, (bytes-word first, (bytes-word second, tt)))),
    ),
  ),
)
words-words (Rolled call posted got) first second h =
    ((refl, refl), (number-word call h.0, (number-word posted h.1, (number-word got h.2, tt))))
words-words (DoneOk call) first second h =
    ((refl, refl), (number-word call h, ((refl, refl), (bytes-word first, tt))))
words-words (DoneTooSmall call size) first second h =
    ((refl, refl), (number-word call h.0, ((refl, refl), (number-word size h.1, tt))))
words-words (DonePeerLost call) first second h = ((refl, refl), (number-word call h, ((refl, refl), tt)))
words-words (Polled now) first second h = ((refl, refl), (number-word now h, tt))
words-words (Missed number) first second h = ((refl, refl), (number-word number h, tt))
words-words (Carried copy) first second h = ((refl, refl), (number-word copy h, tt))
words-words (Lost copy) first second h = ((refl, refl), (number-word copy h, tt))
words-words (Repeated copy) first second h = ((refl, refl), (number-word copy h, tt))
words-words (Ticked by) first second h = ((refl, refl), (number-word by h, tt))

abbrev pub Tale : Type 0
Tale = Event × List ℕ × List ℕ

abbrev bare : Event → Tale
bare event = (event, [], [])

abbrev num : ℕ → List (List ℕ) → ℕ
num i ws = value (word i ws)

abbrev owner_at : ℕ → List (List ℕ) → Owner
owner_at i ws = cond (same (word i ws) (codes "c")) (Ask (num (i + 1) ws) (num (i + 2) ws))
    (cond (same (word i ws) (codes "s")) (Reply (num (i + 1) ws) (num (i + 2) ws)) Control)

-- the event that such words tell
abbrev told_by : List ℕ → List (List ℕ) → Tale
told_by w ws = cond (same w (codes "made")) (bare (Made (num 2 ws)))
    (cond (same w (codes "restarted")) (bare (Restarted (num 1 ws)))
    (cond (same w (codes "opened")) (bare (Opened (num 1 ws) (num 3 ws) (num 5 ws)))
    (cond (same w (codes "paired")) (cond (same (word 1 ws) (codes "client"))
    (bare (PairedClient (num 2 ws) (num 4 ws) (num 6 ws) (num 8 ws) (num 10 ws)))
    (bare (PairedServer (num 2 ws) (num 4 ws) (num 6 ws) (num 8 ws) (num 10 ws))))
    (cond (same w (codes "nconnect")) (cond (same (word 1 ws) (codes "ring"))
    (bare (NconnectRing (num 2 ws) (num 3 ws) (num 4 ws))) (bare NconnectNumbers))
    (cond (same w (codes "accepted")) (bare (Accepted (num 1 ws) (num 3 ws) (num 5 ws) (num 7 ws) (num 9 ws)))
    (cond (same w (codes "declined")) (bare (Declined (num 2 ws) (num 4 ws) (num 6 ws)))
    (cond (same w (codes "starved")) (bare (Starved (num 2 ws) (num 4 ws) (num 6 ws)))
    (cond (same w (codes "connected")) (bare (Connected (num 1 ws) (num 3 ws) (num 5 ws)))
    (cond (same w (codes "failed")) (cond (same (word 2 ws) (codes "noroom"))
    (bare (FailedNoRoom (num 1 ws))) (bare (FailedNoAnswer (num 1 ws))))
    (cond (same w (codes "closing")) (bare (Closing (num 1 ws)))
    (cond (same w (codes "nclose")) (cond (same (word 2 ws) (codes "busy"))
    (bare (NcloseBusy (num 1 ws) (num 3 ws)))
    (bare (NcloseState (num 1 ws) (state_of (word 2 ws)))))
    (cond (same w (codes "closed")) (cond (same (word 2 ws) (codes "heard"))
    (bare (ClosedHeard (num 1 ws))) (bare (ClosedUnheard (num 1 ws))))
    (cond (same w (codes "ended")) (bare (Ended (num 1 ws)))
    (cond (same w (codes "broken")) (bare (Broken (num 1 ws)))
    (cond (same w (codes "rated")) (bare (Rated (num 1 ws) (num 2 ws)))
    (cond (same w (codes "nrate")) (bare (Nrate (num 1 ws) (state_of (word 2 ws))))
    (cond (same w (codes "asked")) ((Asked (num 1 ws) (num 3 ws) (num 5 ws) (num 7 ws), bytes_of (word 8 ws), []))
    (cond (same w (codes "ncall")) (cond (same (word 2 ws) (codes "toolarge"))
    (bare (NcallTooLarge (num 1 ws) (num 3 ws)))
    (bare (NcallState (num 1 ws) (state_of (word 2 ws)))))
    (cond (same w (codes "begun")) (bare (Begun (num 1 ws) (num 3 ws)))
    (cond (same w (codes "posted")) (bare (Posted (owner_at 1 ws) (num 4 ws)))
    (cond (same w (codes "flushed")) (bare (Flushed (owner_at 1 ws) (num 4 ws)))
    (cond (same w (codes "sent")) ((
      Sent (num 1 ws) (owner_at 2 ws) (num 5 ws),
      bytes_of (word 6 ws),
      bytes_of (word 7 ws),
    ))
    (cond (same w (codes "unsent")) ((Unsent (num 1 ws), bytes_of (word 2 ws), []))
    (cond (same w (codes "arrived")) ((Arrived (num 1 ws), bytes_of (word 2 ws), []))
    (cond (same w (codes "overflowed")) ((Overflowed (num 1 ws), bytes_of (word 2 ws), []))
    (cond (same w (codes "bad")) ((Bad (num 1 ws), bytes_of (word 2 ws), []))
    (cond (same w (codes "took")) (bare (Took (owner_at 1 ws) (num 4 ws)))
    (cond (same w (codes "again")) (bare (Again (owner_at 1 ws) (num 4 ws)))
    (cond (same w (codes "dropped")) (bare (Dropped (reason_of (word 1 ws))))
    (cond (same w (codes "given")) (bare (Given (num 1 ws) (num 2 ws)))
    (cond (same w (codes "worked")) (bare (Worked (num 1 ws) (num 2 ws)))
    (cond (same w (codes "ran")) ((Ran (num 1 ws) (num 2 ws) (num 4 ws), bytes_of (word 5 ws), bytes_of (word 6 ws)))
    (cond (same w (codes "rolled")) (bare (Rolled (num 1 ws) (num 2 ws) (num 3 ws)))
    (cond (same w (codes "done")) (cond (same (word 2 ws) (codes "ok"))
    ((DoneOk (num 1 ws), bytes_of (word 3 ws), []))
    (cond (same (word 2 ws) (codes "toosmall")) (bare (DoneTooSmall (num 1 ws) (num 3 ws)))
    (bare (DonePeerLost (num 1 ws)))))
    (cond (same w (codes "polled")) (bare (Polled (num 1 ws)))
    (cond (same w (codes "missed")) (bare (Missed (num 1 ws)))
    (cond (same w (codes "carried")) (bare (Carried (num 1 ws)))
    (cond (same w (codes "lost")) (bare (Lost (num 1 ws)))
    (cond (same w (codes "repeated")) (bare (Repeated (num 1 ws)))
    (cond (same w (codes "ticked")) (bare (Ticked (num 1 ws)))
    (bare Heard)))))))))))))))))))))))))))))))))))))))))

abbrev pub told_of : List (List ℕ) → Tale
told_of ws = told_by (word 0 ws) ws

nothing : (event : Event) (first second : List ℕ) → (first ≡ []) × (second ≡ []) → bare event ≡ (event, first, second)
nothing event first second h = rw (h.0, h.1) refl

with_1 : {A : Type 0} (f : ℕ → A) (a a' : ℕ) → (a' ≡ a) → f a' ≡ f a
with_1 f a a' ea = rw (ea) refl

with_2 : {A : Type 0} (f : ℕ → ℕ → A) (a a' : ℕ) (b b' : ℕ) → (a' ≡ a) → (b' ≡ b) → f a' b' ≡ f a b
with_2 f a a' b b' ea eb = rw (ea, eb) refl

with_3 : {A : Type 0} (f : ℕ → ℕ → ℕ → A) (a a' : ℕ) (b b' : ℕ) (c c' : ℕ) → (a' ≡ a) → (b' ≡ b)
    → (c' ≡ c) → f a' b' c' ≡ f a b c
with_3 f a a' b b' c c' ea eb ec = rw (ea, eb, ec) refl

with_4 : {A : Type 0} (f : ℕ → ℕ → ℕ → ℕ → A) (a a' : ℕ) (b b' : ℕ) (c c' : ℕ) (d d' : ℕ) → (a' ≡ a)
    → (b' ≡ b) → (c' ≡ c) → (d' ≡ d) → f a' b' c' d' ≡ f a b c d
with_4 f a a' b b' c c' d d' ea eb ec ed = rw (ea, eb, ec, ed) refl

with_5 : {A : Type 0} (f : ℕ → ℕ → ℕ → ℕ → ℕ → A) (a a' : ℕ) (b b' : ℕ) (c c' : ℕ) (d d' : ℕ) (e e' : ℕ)
    → (a' ≡ a) → (b' ≡ b) → (c' ≡ c) → (d' ≡ d) → (e' ≡ e) → f a' b' c' d' e' ≡ f a b c d e
with_5 f a a' b b' c c' d d' e e' ea eb ec ed ee = rw (ea, eb, ec, ed, ee) refl

pub told-back : (event : Event) (first second : List ℕ) → EventFits event
    → NoOthers (tail_of event) first second
    → told_of (event_words event first second) ≡ (event, first, second)
told-back (Made ring) first second h none =
    with_1 (λ ring. bare (Made ring)) ring _ (number-back ring h)
    ∙ nothing (Made ring) first second none
told-back (Restarted life) first second h none =
    with_1 (λ life. bare (Restarted life)) life _ (number-back life h)
    ∙ nothing (Restarted life) first second none
told-back (Opened session peer credits) first second h none =
    with_3 (λ session peer credits. bare (Opened session peer credits)) session _ peer _ credits _
    (number-back session h.0) (number-back peer h.1) (number-back credits h.2)
    ∙ nothing (Opened session peer credits) first second none
told-back (PairedClient session peer server credits life) first second h none =
    with_5 (λ session peer server credits life. bare (PairedClient session peer server credits life))
    session _ peer _ server _ credits _ life _ (number-back session h.0) (number-back peer h.1)
    (number-back server h.2) (number-back credits h.3) (number-back life h.4)
    ∙ nothing (PairedClient session peer server credits life) first second none
told-back (PairedServer session peer client credits life) first second h none =
    with_5 (λ session peer client credits life. bare (PairedServer session peer client credits life))
    session _ peer _ client _ credits _ life _ (number-back session h.0) (number-back peer h.1)
    (number-back client h.2) (number-back credits h.3) (number-back life h.4)
    ∙ nothing (PairedServer session peer client credits life) first second none
told-back (NconnectRing shares credits ring) first second h none =
    with_3 (λ shares credits ring. bare (NconnectRing shares credits ring)) shares _ credits _ ring
    _ (number-back shares h.0) (number-back credits h.1) (number-back ring h.2)
    ∙ nothing (NconnectRing shares credits ring) first second none
told-back NconnectNumbers first second h none = nothing (NconnectNumbers) first second none
told-back (Accepted session peer client credits life) first second h none =
    with_5 (λ session peer client credits life. bare (Accepted session peer client credits life))
    session _ peer _ client _ credits _ life _ (number-back session h.0) (number-back peer h.1)
    (number-back client h.2) (number-back credits h.3) (number-back life h.4)
    ∙ nothing (Accepted session peer client credits life) first second none
told-back (Declined peer client credits) first second h none =
    with_3 (λ peer client credits. bare (Declined peer client credits)) peer _ client _ credits _
    (number-back peer h.0) (number-back client h.1) (number-back credits h.2)
    ∙ nothing (Declined peer client credits) first second none
told-back (Starved peer client credits) first second h none =
    with_3 (λ peer client credits. bare (Starved peer client credits)) peer _ client _ credits _
    (number-back peer h.0) (number-back client h.1) (number-back credits h.2)
    ∙ nothing (Starved peer client credits) first second none
told-back (Connected session server life) first second h none =
    with_3 (λ session server life. bare (Connected session server life)) session _ server _ life _
    (number-back session h.0) (number-back server h.1) (number-back life h.2)
    ∙ nothing (Connected session server life) first second none
told-back (FailedNoRoom session) first second h none =
    with_1 (λ session. bare (FailedNoRoom session)) session _ (number-back session h)
    ∙ nothing (FailedNoRoom session) first second none
told-back (FailedNoAnswer session) first second h none =
    with_1 (λ session. bare (FailedNoAnswer session)) session _ (number-back session h)
    ∙ nothing (FailedNoAnswer session) first second none
told-back (Closing session) first second h none =
    with_1 (λ session. bare (Closing session)) session _ (number-back session h)
    ∙ nothing (Closing session) first second none
told-back (NcloseState session state) first second h none =
    rw (not-busy state, state-back state, number-back session h) refl
    ∙ nothing (NcloseState session state) first second none
told-back (NcloseBusy session calls) first second h none =
    with_2 (λ session calls. bare (NcloseBusy session calls)) session _ calls _
    (number-back session h.0) (number-back calls h.1)
    ∙ nothing (NcloseBusy session calls) first second none
told-back (ClosedHeard session) first second h none =
    with_1 (λ session. bare (ClosedHeard session)) session _ (number-back session h)
    ∙ nothing (ClosedHeard session) first second none
told-back (ClosedUnheard session) first second h none =
    with_1 (λ session. bare (ClosedUnheard session)) session _ (number-back session h)
    ∙ nothing (ClosedUnheard session) first second none
told-back (Ended session) first second h none =
    with_1 (λ session. bare (Ended session)) session _ (number-back session h)
    ∙ nothing (Ended session) first second none
told-back (Broken session) first second h none =
    with_1 (λ session. bare (Broken session)) session _ (number-back session h)
    ∙ nothing (Broken session) first second none
told-back (Rated session rate) first second h none =
    with_2 (λ session rate. bare (Rated session rate)) session _ rate _ (number-back session h.0)
    (number-back rate h.1) ∙ nothing (Rated session rate) first second none
told-back (Nrate session state) first second h none =
    rw (state-back state, number-back session h) refl
    ∙ nothing (Nrate session state) first second none
told-back (Asked call session req_type room) first second h none =
    with_4 (λ call session req_type room. (
      Asked call session req_type room,
      bytes_of (bytes_text first),
      [],
    )) call _ session _ req_type _ room _ (number-back call h.0)
    (number-back session h.1) (number-back req_type h.2) (number-back room h.3)
    ∙ rw (bytes-back first, none) refl
told-back (NcallTooLarge session len) first second h none =
    with_2 (λ session len. bare (NcallTooLarge session len)) session _ len _
    (number-back session h.0) (number-back len h.1)
    ∙ nothing (NcallTooLarge session len) first second none
told-back (NcallState session state) first second h none =
    rw (not-toolarge state, state-back state, number-back session h) refl
    ∙ nothing (NcallState session state) first second none
told-back (Begun call request) first second h none =
    with_2 (λ call request. bare (Begun call request)) call _ request _ (number-back call h.0)
    (number-back request h.1) ∙ nothing (Begun call request) first second none
told-back (Posted (Ask client request) number) first second h none =
    with_3 (λ client request number. bare (Posted (Ask client request) number)) client _ request _
    number _ (number-back client h.0.0) (number-back request h.0.1) (number-back number h.1)
    ∙ nothing (Posted (Ask client request) number) first second none
told-back (Posted (Reply server request) number) first second h none =
    with_3 (λ server request number. bare (Posted (Reply server request) number)) server _ request _
    number _ (number-back server h.0.0) (number-back request h.0.1) (number-back number h.1)
    ∙ nothing (Posted (Reply server request) number) first second none
told-back (Posted Control number) first second h none =
    with_1 (λ number. bare (Posted Control number)) number _ (number-back number h.1)
    ∙ nothing (Posted Control number) first second none
told-back (Flushed (Ask client request) number) first second h none =
    with_3 (λ client request number. bare (Flushed (Ask client request) number)) client _ request _
    number _ (number-back client h.0.0) (number-back request h.0.1) (number-back number h.1)
    ∙ nothing (Flushed (Ask client request) number) first second none
told-back (Flushed (Reply server request) number) first second h none =
    with_3 (λ server request number. bare (Flushed (Reply server request) number)) server _ request
    _ number _ (number-back server h.0.0) (number-back request h.0.1) (number-back number h.1)
    ∙ nothing (Flushed (Reply server request) number) first second none
told-back (Flushed Control number) first second h none =
    with_1 (λ number. bare (Flushed Control number)) number _ (number-back number h.1)
    ∙ nothing (Flushed Control number) first second none
told-back (Sent peer (Ask client request) number) first second h none =
    with_4 (λ peer client request number. (
      Sent peer (Ask client request) number,
      bytes_of (bytes_text first),
      bytes_of (bytes_text second),
    )) peer _ client _ request _ number _
    (number-back peer h.0) (number-back client h.1.0) (number-back request h.1.1)
    (number-back number h.2) ∙ rw (bytes-back first, bytes-back second) refl
told-back (Sent peer (Reply server request) number) first second h none =
    with_4 (λ peer server request number. (
      Sent peer (Reply server request) number,
      bytes_of (bytes_text first),
      bytes_of (bytes_text second),
    )) peer _ server _ request _ number _
    (number-back peer h.0) (number-back server h.1.0) (number-back request h.1.1)
    (number-back number h.2) ∙ rw (bytes-back first, bytes-back second) refl
told-back (Sent peer Control number) first second h none =
    with_2 (λ peer number. (
      Sent peer Control number,
      bytes_of (bytes_text first),
      bytes_of (bytes_text second),
    )) peer _ number _ (number-back peer h.0) (number-back number h.2)
    ∙ rw (bytes-back first, bytes-back second) refl
told-back (Unsent peer) first second h none =
    with_1 (λ peer. (Unsent peer, bytes_of (bytes_text first), [])) peer _ (number-back peer h)
    ∙ rw (bytes-back first, none) refl
told-back (Arrived peer) first second h none =
    with_1 (λ peer. (Arrived peer, bytes_of (bytes_text first), [])) peer _ (number-back peer h)
    ∙ rw (bytes-back first, none) refl
told-back (Overflowed peer) first second h none =
    with_1 (λ peer. (Overflowed peer, bytes_of (bytes_text first), [])) peer _ (number-back peer h)
    ∙ rw (bytes-back first, none) refl
told-back (Bad peer) first second h none =
    with_1 (λ peer. (Bad peer, bytes_of (bytes_text first), [])) peer _ (number-back peer h)
    ∙ rw (bytes-back first, none) refl
told-back Heard first second h none = nothing (Heard) first second none
told-back (Took (Ask client request) number) first second h none =
    with_3 (λ client request number. bare (Took (Ask client request) number)) client _ request _
    number _ (number-back client h.0.0) (number-back request h.0.1) (number-back number h.1)
    ∙ nothing (Took (Ask client request) number) first second none
told-back (Took (Reply server request) number) first second h none =
    with_3 (λ server request number. bare (Took (Reply server request) number)) server _ request _
    number _ (number-back server h.0.0) (number-back request h.0.1) (number-back number h.1)
    ∙ nothing (Took (Reply server request) number) first second none
told-back (Took Control number) first second h none =
    with_1 (λ number. bare (Took Control number)) number _ (number-back number h.1)
    ∙ nothing (Took Control number) first second none
told-back (Again (Ask client request) number) first second h none =
    with_3 (λ client request number. bare (Again (Ask client request) number)) client _ request _
    number _ (number-back client h.0.0) (number-back request h.0.1) (number-back number h.1)
    ∙ nothing (Again (Ask client request) number) first second none
told-back (Again (Reply server request) number) first second h none =
    with_3 (λ server request number. bare (Again (Reply server request) number)) server _ request _
    number _ (number-back server h.0.0) (number-back request h.0.1) (number-back number h.1)
    ∙ nothing (Again (Reply server request) number) first second none
told-back (Again Control number) first second h none =
    with_1 (λ number. bare (Again Control number)) number _ (number-back number h.1)
    ∙ nothing (Again Control number) first second none
told-back (Dropped reason) first second h none =
    rw (reason-back reason) refl ∙ nothing (Dropped reason) first second none
told-back (Given session request) first second h none =
    with_2 (λ session request. bare (Given session request)) session _ request _
    (number-back session h.0) (number-back request h.1)
    ∙ nothing (Given session request) first second none
told-back (Worked session request) first second h none =
    with_2 (λ session request. bare (Worked session request)) session _ request _
    (number-back session h.0) (number-back request h.1)
    ∙ nothing (Worked session request) first second none
told-back (Ran session request req_type) first second h none =
    with_3 (λ session request req_type. (
      Ran session request req_type,
      bytes_of (bytes_text first),
      bytes_of (bytes_text second),
    )) session _ request _ req_type _ (number-back session h.0)
    (number-back request h.1) (number-back req_type h.2)
    ∙ rw (bytes-back first, bytes-back second) refl
told-back (Rolled call posted got) first second h none =
    with_3 (λ call posted got. bare (Rolled call posted got)) call _ posted _ got _
    (number-back call h.0) (number-back posted h.1) (number-back got h.2)
    ∙ nothing (Rolled call posted got) first second none
told-back (DoneOk call) first second h none =
    with_1 (λ call. (DoneOk call, bytes_of (bytes_text first), [])) call _ (number-back call h)
    ∙ rw (bytes-back first, none) refl
told-back (DoneTooSmall call size) first second h none =
    with_2 (λ call size. bare (DoneTooSmall call size)) call _ size _ (number-back call h.0)
    (number-back size h.1) ∙ nothing (DoneTooSmall call size) first second none
told-back (DonePeerLost call) first second h none =
    with_1 (λ call. bare (DonePeerLost call)) call _ (number-back call h)
    ∙ nothing (DonePeerLost call) first second none
told-back (Polled now) first second h none =
    with_1 (λ now. bare (Polled now)) now _ (number-back now h)
    ∙ nothing (Polled now) first second none
told-back (Missed number) first second h none =
    with_1 (λ number. bare (Missed number)) number _ (number-back number h)
    ∙ nothing (Missed number) first second none
told-back (Carried copy) first second h none =
    with_1 (λ copy. bare (Carried copy)) copy _ (number-back copy h)
    ∙ nothing (Carried copy) first second none
told-back (Lost copy) first second h none =
    with_1 (λ copy. bare (Lost copy)) copy _ (number-back copy h)
    ∙ nothing (Lost copy) first second none
told-back (Repeated copy) first second h none =
    with_1 (λ copy. bare (Repeated copy)) copy _ (number-back copy h)
    ∙ nothing (Repeated copy) first second none
told-back (Ticked by) first second h none =
    with_1 (λ by. bare (Ticked by)) by _ (number-back by h) ∙ nothing (Ticked by) first second none
