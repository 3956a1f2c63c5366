use Rattle.std.proofs.Common.{◌∙◌, sym}
use Rattle.session_mgmt.proofs.RowLemmas.{kept-if, own-is}
use Rattle.session_mgmt.proofs.control.control_row.Goals as goal

pub returns-in-ConnectReply : goal.returns-in-ConnectReply
returns-in-ConnectReply c = record {
  row = λ s found lacks. rw c.in-ConnectReply.is (own-is c.args.peer c.args.head.now c.args.found.now
      (rw c.in-ConnectReply.is at (sym c.concerns.ensures ∙ c.if-not-concerns.false)) s found _
      ∙ c.reply_row.ensures.row s found ∙ kept-if _ c.reply_row.ensures.unstarved lacks);
  cause = c.reply_row.ensures.cause;
}

pub returns-in-DisconnectReply : goal.returns-in-DisconnectReply
returns-in-DisconnectReply c = record {
  row = λ s found lacks. rw c.in-DisconnectReply.is (own-is c.args.peer c.args.head.now c.args.found.now
      (rw c.in-DisconnectReply.is at (sym c.concerns.ensures ∙ c.if-not-concerns.false)) s found _
      ∙ c.closed_row.ensures.row s found ∙ kept-if _ c.closed_row.ensures.unstarved lacks);
  cause = c.closed_row.ensures.cause;
}
