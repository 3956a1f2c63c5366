-- The event that the words of a line tell. Word 0 is where it happened, word 1 names it; the words
-- that it reads are the first that differ from line to line, and the numbers.
use Rattle.std.specs.Prelude.{ℕ, List, codes, Option, Some, None, if◌then◌else◌}
use Rattle.rpc_base.specs.declared.event.Event.{Event}
use Rattle.rpc_base.specs.declared.event.Event.TheVariants.{Made, Opened, PairedClient}
use Rattle.rpc_base.specs.declared.event.Event.TheVariants.{PairedServer, NconnectRing}
use Rattle.rpc_base.specs.declared.event.Event.TheVariants.{NconnectNumbers, Accepted}
use Rattle.rpc_base.specs.declared.event.Event.TheVariants.{Declined, Starved, Connected}
use Rattle.rpc_base.specs.declared.event.Event.TheVariants.{FailedNoRoom, FailedNoAnswer}
use Rattle.rpc_base.specs.declared.event.Event.TheVariants.{Closing, NcloseState}
use Rattle.rpc_base.specs.declared.event.Event.TheVariants.{NcloseBusy, ClosedHeard}
use Rattle.rpc_base.specs.declared.event.Event.TheVariants.{ClosedUnheard, Ended, Broken}
use Rattle.rpc_base.specs.declared.event.Event.TheVariants.{Rated, Nrate, Asked}
use Rattle.rpc_base.specs.declared.event.Event.TheVariants.{NcallTooLarge, NcallState}
use Rattle.rpc_base.specs.declared.event.Event.TheVariants.{Begun, Posted, Flushed, Sent}
use Rattle.rpc_base.specs.declared.event.Event.TheVariants.{Unsent, Arrived, Overflowed}
use Rattle.rpc_base.specs.declared.event.Event.TheVariants.{Bad, Heard, Took, Again}
use Rattle.rpc_base.specs.declared.event.Event.TheVariants.{Dropped, Given, Worked, Ran}
use Rattle.rpc_base.specs.declared.event.Event.TheVariants.{Rolled, DoneOk, DoneTooSmall}
use Rattle.rpc_base.specs.declared.event.Event.TheVariants.{DonePeerLost, Polled, Missed}
use Rattle.rpc_base.specs.declared.event.Event.TheVariants.{Carried, Lost, Repeated, Ticked}
use Rattle.rpc_base.specs.declared.event.Event.TheVariants.{Restarted}
use Rattle.report_reader.specs.declared.name.Name.{Name}
use Rattle.report_reader.specs.declared.name.Name.TheVariants as name
use Rattle.report_reader.specs.Words.{◌>>=◌, is_word, num, owner_at, reason_at, state_at, word}

unfoldable pub made_in : List (List ℕ) → Option Event
made_in ws = do
  ring ← num 4294967295 3 ws
  Some (Made ring)

unfoldable pub restarted_in : List (List ℕ) → Option Event
restarted_in ws = do
  life ← num 4294967295 2 ws
  Some (Restarted life)

unfoldable pub opened_in : List (List ℕ) → Option Event
opened_in ws = do
  session ← num 65535 2 ws
  peer ← num 255 4 ws
  credits ← num 65535 6 ws
  Some (Opened session peer credits)

unfoldable pub paired_client_in : List (List ℕ) → Option Event
paired_client_in ws = do
  session ← num 65535 3 ws
  peer ← num 255 5 ws
  server ← num 65535 7 ws
  credits ← num 65535 9 ws
  life ← num 4294967295 11 ws
  Some (PairedClient session peer server credits life)

unfoldable pub paired_server_in : List (List ℕ) → Option Event
paired_server_in ws = do
  session ← num 65535 3 ws
  peer ← num 255 5 ws
  client ← num 65535 7 ws
  credits ← num 65535 9 ws
  life ← num 4294967295 11 ws
  Some (PairedServer session peer client credits life)

unfoldable pub nconnect_ring_in : List (List ℕ) → Option Event
nconnect_ring_in ws = do
  shares ← num 4294967295 3 ws
  credits ← num 4294967295 4 ws
  ring ← num 4294967295 5 ws
  Some (NconnectRing shares credits ring)

unfoldable pub accepted_in : List (List ℕ) → Option Event
accepted_in ws = do
  session ← num 65535 2 ws
  peer ← num 255 4 ws
  client ← num 65535 6 ws
  credits ← num 65535 8 ws
  life ← num 4294967295 10 ws
  Some (Accepted session peer client credits life)

unfoldable pub declined_in : List (List ℕ) → Option Event
declined_in ws = do
  peer ← num 255 3 ws
  client ← num 65535 5 ws
  credits ← num 65535 7 ws
  Some (Declined peer client credits)

unfoldable pub starved_in : List (List ℕ) → Option Event
starved_in ws = do
  peer ← num 255 3 ws
  client ← num 65535 5 ws
  credits ← num 65535 7 ws
  Some (Starved peer client credits)

unfoldable pub connected_in : List (List ℕ) → Option Event
connected_in ws = do
  session ← num 65535 2 ws
  server ← num 65535 4 ws
  life ← num 4294967295 6 ws
  Some (Connected session server life)

unfoldable pub failed_no_room_in : List (List ℕ) → Option Event
failed_no_room_in ws = do
  session ← num 65535 2 ws
  Some (FailedNoRoom session)

unfoldable pub failed_no_answer_in : List (List ℕ) → Option Event
failed_no_answer_in ws = do
  session ← num 65535 2 ws
  Some (FailedNoAnswer session)

unfoldable pub closing_in : List (List ℕ) → Option Event
closing_in ws = do
  session ← num 65535 2 ws
  Some (Closing session)

unfoldable pub nclose_state_in : List (List ℕ) → Option Event
nclose_state_in ws = do
  session ← num 65535 2 ws
  state ← state_at 3 ws
  Some (NcloseState session state)

unfoldable pub nclose_busy_in : List (List ℕ) → Option Event
nclose_busy_in ws = do
  session ← num 65535 2 ws
  calls ← num 18446744073709551615 4 ws
  Some (NcloseBusy session calls)

unfoldable pub closed_heard_in : List (List ℕ) → Option Event
closed_heard_in ws = do
  session ← num 65535 2 ws
  Some (ClosedHeard session)

unfoldable pub closed_unheard_in : List (List ℕ) → Option Event
closed_unheard_in ws = do
  session ← num 65535 2 ws
  Some (ClosedUnheard session)

unfoldable pub ended_in : List (List ℕ) → Option Event
ended_in ws = do
  session ← num 65535 2 ws
  Some (Ended session)

unfoldable pub broken_in : List (List ℕ) → Option Event
broken_in ws = do
  session ← num 65535 2 ws
  Some (Broken session)

unfoldable pub rated_in : List (List ℕ) → Option Event
rated_in ws = do
  session ← num 65535 2 ws
  rate ← num 4294967295 3 ws
  Some (Rated session rate)

unfoldable pub nrate_in : List (List ℕ) → Option Event
nrate_in ws = do
  session ← num 65535 2 ws
  state ← state_at 3 ws
  Some (Nrate session state)

unfoldable pub asked_in : List (List ℕ) → Option Event
asked_in ws = do
  call ← num 18446744073709551615 2 ws
  session ← num 65535 4 ws
  req_type ← num 255 6 ws
  room ← num 4294967295 8 ws
  Some (Asked call session req_type room)

unfoldable pub ncall_too_large_in : List (List ℕ) → Option Event
ncall_too_large_in ws = do
  session ← num 65535 2 ws
  len ← num 4294967295 4 ws
  Some (NcallTooLarge session len)

unfoldable pub ncall_state_in : List (List ℕ) → Option Event
ncall_state_in ws = do
  session ← num 65535 2 ws
  state ← state_at 3 ws
  Some (NcallState session state)

unfoldable pub begun_in : List (List ℕ) → Option Event
begun_in ws = do
  call ← num 18446744073709551615 2 ws
  request ← num 281474976710655 4 ws
  Some (Begun call request)

unfoldable pub posted_in : List (List ℕ) → Option Event
posted_in ws = do
  owner ← owner_at 2 ws
  number ← num 65535 5 ws
  Some (Posted owner number)

unfoldable pub flushed_in : List (List ℕ) → Option Event
flushed_in ws = do
  owner ← owner_at 2 ws
  number ← num 65535 5 ws
  Some (Flushed owner number)

unfoldable pub sent_in : List (List ℕ) → Option Event
sent_in ws = do
  peer ← num 255 2 ws
  owner ← owner_at 3 ws
  number ← num 65535 6 ws
  Some (Sent peer owner number)

unfoldable pub unsent_in : List (List ℕ) → Option Event
unsent_in ws = do
  peer ← num 255 2 ws
  Some (Unsent peer)

unfoldable pub arrived_in : List (List ℕ) → Option Event
arrived_in ws = do
  peer ← num 255 2 ws
  Some (Arrived peer)

unfoldable pub overflowed_in : List (List ℕ) → Option Event
overflowed_in ws = do
  peer ← num 255 2 ws
  Some (Overflowed peer)

unfoldable pub bad_in : List (List ℕ) → Option Event
bad_in ws = do
  peer ← num 255 2 ws
  Some (Bad peer)

unfoldable pub took_in : List (List ℕ) → Option Event
took_in ws = do
  owner ← owner_at 2 ws
  number ← num 65535 5 ws
  Some (Took owner number)

unfoldable pub again_in : List (List ℕ) → Option Event
again_in ws = do
  owner ← owner_at 2 ws
  number ← num 65535 5 ws
  Some (Again owner number)

unfoldable pub dropped_in : List (List ℕ) → Option Event
dropped_in ws = do
  reason ← reason_at 2 ws
  Some (Dropped reason)

unfoldable pub given_in : List (List ℕ) → Option Event
given_in ws = do
  session ← num 65535 2 ws
  request ← num 281474976710655 3 ws
  Some (Given session request)

unfoldable pub worked_in : List (List ℕ) → Option Event
worked_in ws = do
  session ← num 65535 2 ws
  request ← num 281474976710655 3 ws
  Some (Worked session request)

unfoldable pub ran_in : List (List ℕ) → Option Event
ran_in ws = do
  session ← num 65535 2 ws
  request ← num 281474976710655 3 ws
  req_type ← num 255 5 ws
  Some (Ran session request req_type)

unfoldable pub rolled_in : List (List ℕ) → Option Event
rolled_in ws = do
  call ← num 18446744073709551615 2 ws
  posted ← num 65535 3 ws
  got ← num 65535 4 ws
  Some (Rolled call posted got)

unfoldable pub done_ok_in : List (List ℕ) → Option Event
done_ok_in ws = do
  call ← num 18446744073709551615 2 ws
  Some (DoneOk call)

unfoldable pub done_too_small_in : List (List ℕ) → Option Event
done_too_small_in ws = do
  call ← num 18446744073709551615 2 ws
  size ← num 4294967295 4 ws
  Some (DoneTooSmall call size)

unfoldable pub done_peer_lost_in : List (List ℕ) → Option Event
done_peer_lost_in ws = do
  call ← num 18446744073709551615 2 ws
  Some (DonePeerLost call)

unfoldable pub polled_in : List (List ℕ) → Option Event
polled_in ws = do
  now ← num 18446744073709551615 2 ws
  Some (Polled now)

unfoldable pub missed_in : List (List ℕ) → Option Event
missed_in ws = do
  number ← num 4294967295 2 ws
  Some (Missed number)

unfoldable pub carried_in : List (List ℕ) → Option Event
carried_in ws = do
  copy ← num 4294967295 2 ws
  Some (Carried copy)

unfoldable pub lost_in : List (List ℕ) → Option Event
lost_in ws = do
  copy ← num 4294967295 2 ws
  Some (Lost copy)

unfoldable pub repeated_in : List (List ℕ) → Option Event
repeated_in ws = do
  copy ← num 4294967295 2 ws
  Some (Repeated copy)

unfoldable pub ticked_in : List (List ℕ) → Option Event
ticked_in ws = do
  by ← num 4294967295 2 ws
  Some (Ticked by)

unfoldable pub paired_line : List (List ℕ) → Option Event
paired_line ws =
    if is_word (word 2 ws) (codes "client") then paired_client_in ws
    else (paired_server_in ws)

unfoldable pub nconnect_line : List (List ℕ) → Option Event
nconnect_line ws =
    if is_word (word 2 ws) (codes "ring") then nconnect_ring_in ws
    else (Some NconnectNumbers)

unfoldable pub failed_line : List (List ℕ) → Option Event
failed_line ws =
    if is_word (word 3 ws) (codes "noroom") then failed_no_room_in ws
    else (failed_no_answer_in ws)

unfoldable pub nclose_line : List (List ℕ) → Option Event
nclose_line ws =
    if is_word (word 3 ws) (codes "busy") then nclose_busy_in ws
    else (nclose_state_in ws)

unfoldable pub closed_line : List (List ℕ) → Option Event
closed_line ws =
    if is_word (word 3 ws) (codes "heard") then closed_heard_in ws
    else (closed_unheard_in ws)

unfoldable pub ncall_line : List (List ℕ) → Option Event
ncall_line ws =
    if is_word (word 3 ws) (codes "toolarge") then ncall_too_large_in ws
    else (ncall_state_in ws)

unfoldable pub done_line : List (List ℕ) → Option Event
done_line ws =
    if is_word (word 3 ws) (codes "ok") then done_ok_in ws
    else (if is_word (word 3 ws) (codes "toosmall") then done_too_small_in ws
    else (done_peer_lost_in ws))

unfoldable pub names_4 : List ℕ → Option Name
names_4 w =
    if is_word w (codes "worked") then Some name.Worked
    else (if is_word w (codes "ran") then Some name.Ran
    else (if is_word w (codes "rolled") then Some name.Rolled
    else (if is_word w (codes "done") then Some name.Done
    else (if is_word w (codes "polled") then Some name.Polled
    else (if is_word w (codes "missed") then Some name.Missed
    else (if is_word w (codes "carried") then Some name.Carried
    else (if is_word w (codes "lost") then Some name.Lost
    else (if is_word w (codes "repeated") then Some name.Repeated
    else (if is_word w (codes "ticked") then Some name.Ticked
    else (if is_word w (codes "restarted") then Some name.Restarted
    else None))))))))))

unfoldable pub names_3 : List ℕ → Option Name
names_3 w =
    if is_word w (codes "flushed") then Some name.Flushed
    else (if is_word w (codes "sent") then Some name.Sent
    else (if is_word w (codes "unsent") then Some name.Unsent
    else (if is_word w (codes "arrived") then Some name.Arrived
    else (if is_word w (codes "overflowed") then Some name.Overflowed
    else (if is_word w (codes "bad") then Some name.Bad
    else (if is_word w (codes "heard") then Some name.Heard
    else (if is_word w (codes "took") then Some name.Took
    else (if is_word w (codes "again") then Some name.Again
    else (if is_word w (codes "dropped") then Some name.Dropped
    else (if is_word w (codes "given") then Some name.Given
    else names_4 w))))))))))

unfoldable pub names_2 : List ℕ → Option Name
names_2 w =
    if is_word w (codes "nclose") then Some name.Nclose
    else (if is_word w (codes "closed") then Some name.Closed
    else (if is_word w (codes "ended") then Some name.Ended
    else (if is_word w (codes "broken") then Some name.Broken
    else (if is_word w (codes "rated") then Some name.Rated
    else (if is_word w (codes "nrate") then Some name.Nrate
    else (if is_word w (codes "asked") then Some name.Asked
    else (if is_word w (codes "ncall") then Some name.Ncall
    else (if is_word w (codes "begun") then Some name.Begun
    else (if is_word w (codes "posted") then Some name.Posted
    else names_3 w)))))))))

unfoldable pub names_1 : List ℕ → Option Name
names_1 w =
    if is_word w (codes "made") then Some name.Made
    else (if is_word w (codes "opened") then Some name.Opened
    else (if is_word w (codes "paired") then Some name.Paired
    else (if is_word w (codes "nconnect") then Some name.Nconnect
    else (if is_word w (codes "accepted") then Some name.Accepted
    else (if is_word w (codes "declined") then Some name.Declined
    else (if is_word w (codes "starved") then Some name.Starved
    else (if is_word w (codes "connected") then Some name.Connected
    else (if is_word w (codes "failed") then Some name.Failed
    else (if is_word w (codes "closing") then Some name.Closing
    else names_2 w)))))))))

-- the name that a word is
unfoldable pub name_of : List ℕ → Option Name
name_of w = names_1 w

unfoldable pub event_by : Name → List (List ℕ) → Option Event
event_by name.Made ws = made_in ws
event_by name.Opened ws = opened_in ws
event_by name.Paired ws = paired_line ws
event_by name.Nconnect ws = nconnect_line ws
event_by name.Accepted ws = accepted_in ws
event_by name.Declined ws = declined_in ws
event_by name.Starved ws = starved_in ws
event_by name.Connected ws = connected_in ws
event_by name.Failed ws = failed_line ws
event_by name.Closing ws = closing_in ws
event_by name.Nclose ws = nclose_line ws
event_by name.Closed ws = closed_line ws
event_by name.Ended ws = ended_in ws
event_by name.Broken ws = broken_in ws
event_by name.Rated ws = rated_in ws
event_by name.Nrate ws = nrate_in ws
event_by name.Asked ws = asked_in ws
event_by name.Ncall ws = ncall_line ws
event_by name.Begun ws = begun_in ws
event_by name.Posted ws = posted_in ws
event_by name.Flushed ws = flushed_in ws
event_by name.Sent ws = sent_in ws
event_by name.Unsent ws = unsent_in ws
event_by name.Arrived ws = arrived_in ws
event_by name.Overflowed ws = overflowed_in ws
event_by name.Bad ws = bad_in ws
event_by name.Heard ws = Some Heard
event_by name.Took ws = took_in ws
event_by name.Again ws = again_in ws
event_by name.Dropped ws = dropped_in ws
event_by name.Given ws = given_in ws
event_by name.Worked ws = worked_in ws
event_by name.Ran ws = ran_in ws
event_by name.Rolled ws = rolled_in ws
event_by name.Done ws = done_line ws
event_by name.Polled ws = polled_in ws
event_by name.Missed ws = missed_in ws
event_by name.Carried ws = carried_in ws
event_by name.Lost ws = lost_in ws
event_by name.Repeated ws = repeated_in ws
event_by name.Ticked ws = ticked_in ws
event_by name.Restarted ws = restarted_in ws

-- the event of a line
unfoldable pub event_in : List (List ℕ) → Option Event
event_in ws = do
  name ← name_of (word 1 ws)
  event_by name ws
