-- What the calls of the loop lead to in the session of an application.
use Rattle.std.specs.Prelude.{◌≡◌, length, take, Some}
use Rattle.smsc_loop.specs.Calls.{Call, Timed, Told, Took, Heard, GaveUp, AskedLink, AskedToLeave, Noted, Sent, Put, PutBack, Left, Goes}
use Rattle.smsc_endpoint.specs.EsmeCalls.{asked_to_leave, at_time, ended, handed_back, handed_out, heard, last_job, next_note, octets_of, saying, sent, taken}
use Rattle.smsc_endpoint.specs.EsmeCalls.{told}
use Rattle.smsc_endpoint.specs.EsmeView.{EsmeView}
use Rattle.smsc_endpoint.specs.Refusing.{no_room, enquire_link}

-- of a call that was refused memory nothing is said
abbrev pub EsmeDoes : Call → EsmeView → EsmeView → Type 0
EsmeDoes (Timed now went) e f = Goes went (f ≡ at_time now e)
EsmeDoes (Told full) e f = f ≡ told full e
EsmeDoes (Took octets went) e f = Goes went (f ≡ taken octets e)
EsmeDoes (Heard reply went) e f = Goes went (f ≡ heard reply e)
EsmeDoes (GaveUp went) e f = Goes went (f ≡ saying no_room e)
EsmeDoes (AskedLink went) e f = Goes went (f ≡ saying enquire_link e)
EsmeDoes (AskedToLeave asked went) e f = Goes went ((asked, f) ≡ asked_to_leave e)
EsmeDoes (Noted note) e f = (note, f) ≡ next_note e
EsmeDoes (Sent octets) e f = (octets ≡ take (length octets) (octets_of e)) × (f ≡ sent (length octets) e)
EsmeDoes (Put job) e f = (Some job, f) ≡ handed_out e
EsmeDoes (PutBack job again went) e f = (d : EsmeView) × ((Some job, d) ≡ handed_out e) × Goes went ((again, f) ≡ handed_back job d)
EsmeDoes (Left last) e f = (last ≡ last_job e) × (f ≡ ended e)
EsmeDoes call e f = f ≡ e
