-- What a handset keeps that it may send.
use Rattle.std.specs.Prelude.{ℕ, ◌<◌, ◌≤◌, List, Option, Some, None, length}
use Rattle.std.specs.List.{AllByRecursion}
use Rattle.sms_base.specs.Address.{IsAddress}
use Rattle.sms_base.specs.Among.{Among}
use Rattle.sms_base.specs.Reading.{AreOctets}
use Rattle.sms_base.specs.declared.address.Address.{Address}
use Rattle.sms_control.specs.declared.link_state.Answer.{Answer}
use Rattle.sms_control.specs.declared.link_state.Begun.{Begun}
use Rattle.sms_control.specs.declared.link_state.LinkState.{LinkState}
use Rattle.sms_control.specs.declared.link_state.Opened.{Opened}
use Rattle.sms_link.specs.declared.outgoing.Outgoing.{Outgoing}
use Rattle.sms_handset_rows.specs.declared.outbox.notice.Notice.{Notice}
use Rattle.sms_handset_rows.specs.declared.outbox.out_entry.OutEntry.{OutEntry}
use Rattle.sms_handset_draft.specs.Draft.{Core}

-- ---- the link

abbrev pub BegunInOctets : Option Begun → Type 0
BegunInOctets None = Unit {0}
BegunInOctets (Some b) = AreOctets b.frame

abbrev pub AnswerInOctets : Option Answer → Type 0
AnswerInOctets None = Unit {0}
AnswerInOctets (Some a) = AreOctets a.frame

abbrev pub OpenedInOctets : Option Opened → Type 0
OpenedInOctets None = Unit {0}
OpenedInOctets (Some o) = (o.identifier < 7) × AnswerInOctets o.answer

-- what it may send again is octets, and the identifiers of its transactions are 0 to 6 (3GPP TS 24.007 11.2.3.1.3)
pub record LinkInOctets (s : LinkState) : Type 0 where
  pub next : s.next_identifier < 7
  pub begun : BegunInOctets s.begun
  pub opened : OpenedInOctets s.opened

-- ---- the outbox

-- a TPDU of octets, short enough for the length octet of the unit that carries it, under a reference of one octet
pub record EntryInOctets (o : OutEntry) : Type 0 where
  pub tpdu : AreOctets o.tpdu
  pub short : length o.tpdu ≤ 200
  pub reference : o.reference < 256

-- ---- all of it

-- the references that are given next take one octet, that of a long text two
pub record KeepsOctets (address : Address) (next next_message next_concat : ℕ) (entries : List OutEntry) (links : LinkState) (sent : List Notice) : Type 0 where
  pub centre : IsAddress address
  pub reference : next < 256
  pub message_reference : next_message < 256
  pub concat_reference : next_concat < 65536
  pub outbox : (o : OutEntry) → Among o entries → EntryInOctets o
  pub link : LinkInOctets links
  pub notices : (n : Notice) → Among n sent → n.reference < 256

-- so a handset keeps between two events
abbrev pub CoreKeepsOctets : Core → Type 0
CoreKeepsOctets c =
    KeepsOctets c.rows.setup.centre c.rows.counters.reference c.rows.counters.message_reference c.rows.counters.concat_reference c.rows.outbox c.links c.notices

-- ---- what is sent

abbrev pub SentInOctets : List Outgoing → Type 0
SentInOctets frames = AllByRecursion (λ (f : Outgoing). AreOctets f.octets) frames
