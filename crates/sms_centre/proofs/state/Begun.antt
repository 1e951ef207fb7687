-- A centre that starts on sound rows stands.
use Rattle.std.proofs.Common.{◌≡◌, ℕ, List, Bool, true, false, subst}
use Rattle.sms_base.specs.Among.{Among}
use Rattle.sms_centre_messages.specs.references.ReferenceIndex.{Represents as ReferencesRepresent}
use Rattle.sms_centre_reports.specs.open_reports.OpenReports.{Represents as RepresentsReports}
use Rattle.sms_centre_messages.specs.message_index.MessageIndex.{Represents as MessagesRepresent}
use Rattle.sms_centre_rows.specs.declared.messages.message.MessageRow.{MessageRow}
use Rattle.sms_centre_reports.specs.report_log.ReportLog.{Represents as LogRepresents}
use Rattle.sms_centre_rows.specs.declared.reports.report.ReportRow.{ReportRow}
use Rattle.sms_centre_rows.specs.reports.Receipts.{Session, session_key}
use Rattle.sms_centre_reports.specs.sessions.Awaited.{AreAwaited}
use Rattle.sms_centre_queue.specs.queues.Representing.{Represents as QueuesRepresent}
use Rattle.sms_centre_recovery.specs.starting.Starting.{links_of}
use Rattle.sms_rows.specs.table.Table.{Rises}
use Rattle.sms_centre_rows.specs.waiting.SoundAllocations.{IsNumber}
use Rattle.sms_centre_spec.specs.declared.rows.Rows.{Rows}
use Rattle.sms_centre_spec.specs.CentreEvent.{moment_of}
use Rattle.sms_centre_spec.specs.SoundCore.{AreDifferent, IsSession, IsSoundCore}
use Rattle.sms_centre_spec.specs.SoundRows.{IsSound, all_for}
use Rattle.sms_centre_spec.proofs.SoundBegins.{recovered_sound, started_sound}
use Rattle.sms_centre.specs.state.Recovering.{AreNew, begun}
use Rattle.sms_centre.specs.state.CentreState.{Represents as StateRepresents, CentreStateOf}

-- nothing waits in new sessions
nothing_sent : (ss : List Session) → AreNew ss → (s : Session) → Among s ss → (id : ℕ) → Among id s.unanswered → ⊥
nothing_sent ss new s a id b = elim (subst (λ (ids : List ℕ). Among id ids) (new s a) b) [ ]

awaits_nothing : (ms : List MessageRow) (rs : List ReportRow) (ss : List Session) → AreNew ss → AreAwaited ms rs ss
awaits_nothing ms rs ss new = record {
  each = λ s a id b. absurd (nothing_sent ss new s a id b);
  apart = λ s other a o id b d. absurd (nothing_sent ss new s a id b);
}

new_session : (rows : Rows) (ss : List Session) → AreNew ss → (s : Session) → Among s ss → IsSession rows s
new_session rows ss new s a = record { unanswered = λ id b. absurd (nothing_sent ss new s a id b) }

module _ (up : Bool) (rows : Rows) (ns : List (List ℕ)) (ss : List Session) (sound : IsSound rows) (are : (n : List ℕ) → Among n ns → IsNumber n) (apart : AreDifferent ns) (new : AreNew ss) (keys : Rises session_key ss) where
  begins_sound : (b : Bool) → IsSoundCore (begun b rows ns ss)
  begins_sound true = started_sound rows ns ss sound are apart keys (new_session rows ss new)
  begins_sound false = recovered_sound rows ns ss sound are apart keys (new_session rows ss new)

  pub begun_represents : (s : CentreStateOf) → s.setup ≡ rows.setup → s.moment ≡ moment_of rows → MessagesRepresent s.messages rows.messages rows.parts → ReferencesRepresent s.reference_index rows.bars rows.messages rows.parts
      → QueuesRepresent rows.handsets rows.references (links_of up ns) (λ (n : List ℕ). all_for n rows) s.queues → RepresentsReports rows.messages s.reports rows.reports → LogRepresents s.log rows.reports
      → s.sessions.rows ≡ ss → StateRepresents (begun up rows ns ss) s
  begun_represents s setup moment messages reference_index queues reports log sessions = record {
    centre = record {
      sound = begins_sound up;
      setup_is = setup;
      moment_is = moment;
      messages_are = messages;
      queues_are = queues;
      reports_are = reports;
      sessions_are = sessions;
    };
    reference_index = reference_index;
    log = log;
    awaited = awaits_nothing rows.messages rows.reports ss new;
  }
