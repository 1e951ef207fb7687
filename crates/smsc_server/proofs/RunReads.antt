-- What the connections of a seat read, in a run.
use Rattle.std.proofs.Common.{◌≡◌, ◌∙◌, ℕ, List, [], ◌∷◌, ◌++◌, Option, refl, sym, ap, append-nil}
use Rattle.sms_centre_spec.specs.declared.jobs.job.Job.{Job}
use Rattle.sms_centre_spec.specs.declared.jobs.reply.Reply.{Reply}
use Rattle.sms_keeper.specs.declared.machine.Item.{Item}
use Rattle.sms_seats.specs.Seats.{put_by, taken_by}
use Rattle.smsc_loop.specs.Calls.{Call, replies_taken}
use Rattle.smsc_loop.specs.Courses.{Did, Standing, standing}
use Rattle.smsc_loop.specs.Owing.{IsCleared, answers_in, requests_in}
use Rattle.smsc_loop.specs.Phases.{Serves}
use Rattle.smsc_endpoint.specs.declared.link_access.LinkAccess.{LinkAccess}
use Rattle.smsc_endpoint.specs.EsmeView.{opened as opened_session}
use Rattle.smsc_endpoint.specs.LinkDoes.{LinkDoes}
use Rattle.smsc_endpoint.specs.LinkView.{LinkView, opened as opened_link}
use Rattle.smsc_service.specs.Serving.{Serving}
use Rattle.smsc_server.specs.CentresAnswers.{AreFor}
use Rattle.smsc_server.specs.Exchanges.{AreExchanged, AreLastExchanged, Exchange, HaveExchanges, answers_among, exchanges}
use Rattle.smsc_server.specs.RunReads.{HaveRead, ReadsOwn}
use Rattle.smsc_server.specs.WhatALinkReads.{IsLinkRead}
use Rattle.smsc_server.specs.serving.Connections.{Admitted, Connection, Session, Link, TurnedAway, calls_of, remaining_on, written_on}
use Rattle.smsc_server.specs.serving.Sittings.{AllSatDown, InTurn, SatDown}
use Rattle.smsc_server.proofs.CentresAnswers.{reads_answers}

-- what a handset reads, of any link
abbrev pub ReadLinks : Type 0
ReadLinks =
    (access : LinkAccess) (s t u : Standing LinkView) → s.view ≡ opened_link access → s.phase ≡ Serves
    → (served : Did LinkDoes s t) → (left : Did LinkDoes t u) → IsLinkRead access (served.calls ++ left.calls)

for_own : (n : ℕ) (s : Serving) (calls : List Call) (items : List (Item Job Reply)) → AreExchanged n s calls items → AreFor calls (exchanges n s items)
for_own n s calls items h = record {
  requests = h.requests;
  left = [];
  answers = h.answers ∙ sym (append-nil (answers_among (replies_taken calls)));
}

for_last : (n : ℕ) (s : Serving) (calls : List Call) (items : List (Item Job Reply)) → AreLastExchanged n s calls items → AreFor calls (exchanges n s items)
for_last n s calls items h = record { requests = h.requests; left = h.left; answers = h.answers }

module _ {S : Type 0} (remaining contents : S → Option (List ℕ)) (admitted : Admitted) (links : ReadLinks) where
  own_read : (c : Connection remaining contents admitted) (put : List (Option Job)) (taken : List Reply) → IsCleared put taken
      → SatDown remaining contents admitted put taken c → (own : List Exchange) → AreFor (calls_of remaining contents admitted c) own
      → ReadsOwn remaining contents admitted c own
  own_read (Session accounts may visit) put taken cleared down own for =
      reads_answers accounts
      (standing (opened_session accounts) Serves (remaining_on visit.wire) (written_on contents visit.wire) visit.seat)
      (standing visit.served.last visit.served.last_phase (remaining_on visit.wire_then) (written_on contents visit.wire_then) visit.served.last_seat)
      (standing visit.endpoint visit.served.phase (remaining_on visit.wire_then) (written_on contents visit.wire_then) visit.seat_then)
      refl refl (ap requests_in down.0 ∙ (cleared.0 ∙ sym (ap answers_in down.1))) visit.served.served visit.served.left own for
  own_read (Link visit) put taken cleared down own for =
      links admitted.access
      (standing (opened_link admitted.access) Serves (remaining_on visit.wire) (written_on contents visit.wire) visit.seat)
      (standing visit.served.last visit.served.last_phase (remaining_on visit.wire_then) (written_on contents visit.wire_then) visit.served.last_seat)
      (standing visit.endpoint visit.served.phase (remaining_on visit.wire_then) (written_on contents visit.wire_then) visit.seat_then)
      refl refl visit.served.served visit.served.left
  own_read (TurnedAway arrival) put taken cleared down own for = tt

  pub have_read : (n : ℕ) (cs : List (Connection remaining contents admitted)) (put : List (Option Job)) (taken : List Reply) (s : Serving) (items : List (Item Job Reply))
      → AllSatDown remaining contents admitted put taken cs → InTurn remaining contents admitted put taken cs
      → HaveExchanges remaining contents admitted n s cs items → HaveRead remaining contents admitted n s cs items
  have_read n [] put taken s items down turn k = tt
  have_read n (c ∷ []) put taken s items down turn k =
      (k, own_read c put taken turn.0 down.0 (exchanges n s items) (for_last n s (calls_of remaining contents admitted c) items k))
  have_read n (c ∷ next ∷ cs) put taken s items down turn k = (
    k.0,
    k.1,
    k.2,
    k.3,
    k.4,
    k.5,
    own_read c put taken turn.0 down.0 (exchanges n s k.0) (for_own n s (calls_of remaining contents admitted c) k.0 k.5),
    have_read n (next ∷ cs) _ _ k.2 k.1 down.1 turn.1 k.6,
  )
