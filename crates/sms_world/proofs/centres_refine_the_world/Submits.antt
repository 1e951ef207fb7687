-- A submit_sm: the message is entered with all its parts, or nothing but the answer comes of it.
use Rattle.std.proofs.Common.{◌≡◌, ℕ, ◌+◌, ◌<◌, ◌≤◌, List, [], ◌∷◌, Bool, true, false, refl, sym, ap, subst, inl, inr, ⊎_elim, Option, Some, None, Result, Ok, Err, length}
use Rattle.std.specs.Prelude.{nat_le, nat_lt}
use Rattle.std.proofs.lemmas.Bool.{cases_Bool, cases_lt, cond_both}
use Rattle.sms_base.specs.Among.{Among}
use Rattle.sms_concat.proofs.Numbering.{split_alone, split_cut, split_refused}
use Rattle.sms_concat.specs.Splitting.{alone, is_compressed, numbered, numbered_all, pieces_of, split_of}
use Rattle.sms_concat.specs.UserData.{capacity}
use Rattle.sms_concat.specs.declared.content.Content.{Content}
use Rattle.sms_concat.specs.declared.content.Part.{Part}
use Rattle.sms_concat.specs.declared.split_error.SplitError.{SplitError}
use Rattle.sms_concat.specs.declared.split_error.SplitError.TheVariants.{DoesNotFit, TooManyParts}
use Rattle.smpp_pdu.specs.declared.message.Message.{Message as Pdu}
use Rattle.smpp_pdu.specs.declared.status.CommandStatus.{CommandStatus}
use Rattle.smpp_pdu.specs.declared.status.CommandStatus.TheVariants.{ESME_RSUBMITFAIL}
use Rattle.sms_intake.specs.PartBodies.{bodies_of, bodies_under, is_long, parts_or_none}
use Rattle.sms_intake.specs.SmppIntake.{from_pdu}
use Rattle.sms_intake.specs.declared.submission.CentreAccount.{CentreAccount}
use Rattle.sms_intake.specs.declared.submission.SinglePart.{SinglePart}
use Rattle.sms_intake.specs.declared.submission.Submission.{Submission as SubmissionRow}
use Rattle.sms_intake.specs.declared.submission.Text.{Text}
use Rattle.sms_intake.specs.declared.submission.Text.TheVariants.{Whole, Single}
use Rattle.sms_centre_rows.specs.messages.SplitReferences.{next_split}
use Rattle.sms_centre_rows.specs.declared.messages.message.MessageRow.{MessageRow}
use Rattle.sms_centre_spec.proofs.NextNumbers.{below_next_number}
use Rattle.sms_centre_spec.proofs.PduFits.{event_gives}
use Rattle.sms_centre_spec.proofs.SoundEvents.{event_after}
use Rattle.sms_centre_spec.proofs.SoundStores.{SoundStore}
use Rattle.sms_centre_spec.specs.Draft.{Draft, Store, answer_with, bars_in, draft_of, in_store, messages_in, parts_in, rows_of}
use Rattle.sms_centre_spec.specs.MessageNumbers.{next_number}
use Rattle.sms_centre_spec.proofs.Stages.{unless_kept}
use Rattle.sms_centre_spec.specs.Requests.{account_at, accepted, refused, submission_received, submit, submit_by}
use Rattle.sms_centre_spec.specs.Consistent.{IsSubmission}
use Rattle.sms_centre_spec.specs.Submitted.{AccountGives}
use Rattle.sms_centre_spec.specs.Shares.{unless_too_much}
use Rattle.sms_centre_spec.specs.Submitting.{accept, accept_as, accept_split, accept_under, is_reference_taken}
use Rattle.sms_centre_spec.specs.declared.answer.CentreAnswer.{CentreAnswer}
use Rattle.sms_centre_spec.specs.declared.answer.CentreAnswer.TheVariants.{Submitted as SubmittedAnswer}
use Rattle.sms_centre_spec.specs.declared.event.CentreEvent.TheVariants.{Submit}
use Rattle.sms_world_model.specs.ScriptRun.{Submitted}
use Rattle.sms_world_model.specs.World.{World}
use Rattle.sms_world_model.specs.WorldStep.{Submit as SubmitStep, submitted}
use Rattle.sms_world.specs.centres_refine_the_world.CentreLaws.{SubmitLaw}
use Rattle.sms_world.specs.centres_refine_the_world.CentreRefinement.{CentreRefines, StoreRefines}
use Rattle.sms_world.proofs.centres_refine_the_world.Entering.{Submits, any_submits, entered_as, under_submits}
use Rattle.sms_world.proofs.centres_refine_the_world.Playing.{Acts, acts_lead, answer_refines, store_is_reached}
use Rattle.sms_world.proofs.centres_refine_the_world.QuietEvents.{start}

-- ---- the parts of a text all have a header, or none has

abbrev AreAlike : List SinglePart → Type 0
AreAlike bodies = (header : Bool) × ((b : SinglePart) → Among b bodies → b.header_indicator ≡ header)

numbered_alike : (content : Content) (reference total number : ℕ) (pieces : List (List ℕ)) (b : SinglePart) → Among b (bodies_of (numbered content reference total number pieces)) → b.header_indicator ≡ true
numbered_alike content reference total number [] b i = absurd i
numbered_alike content reference total number (piece ∷ pieces) b i = ⊎_elim
    (λ e. ap (λ (x : SinglePart). x.header_indicator) e)
    (λ j. numbered_alike content reference total (number + 1) pieces b j)
    i

cut_alike : (content : Content) (reference : ℕ) (pieces : List (List ℕ)) → AreAlike (bodies_of (parts_or_none (numbered_all content reference pieces)))
cut_alike content reference pieces =
    cond_both (nat_lt 20 (length pieces)) (Err TooManyParts) (Ok (numbered content reference (length pieces) 1 pieces)) (λ (r : Result (List Part) SplitError). AreAlike (bodies_of (parts_or_none r)))
    (λ t. (false, λ b i. absurd i))
    (λ t. (true, λ b i. numbered_alike content reference (length pieces) 1 pieces b i))

alike_in : (r z : Result (List Part) SplitError) → r ≡ z → AreAlike (bodies_of (parts_or_none z)) → AreAlike (bodies_of (parts_or_none r))
alike_in r z e k = subst (λ (x : Result (List Part) SplitError). AreAlike (bodies_of (parts_or_none x))) (sym e) k

bodies_alike : (reference : ℕ) (t : Text) → AreAlike (bodies_under reference t)
bodies_alike reference (Single part) = (part.header_indicator, λ b i. ⊎_elim (λ (e : b ≡ part). ap (λ (x : SinglePart). x.header_indicator) e) (λ (j : ⊥). absurd j) i)
bodies_alike reference (Whole content) = ⊎_elim
    (λ (over : capacity content.coding < length content.units). ⊎_elim
    (λ (c : is_compressed content.coding ≡ true). alike_in (split_of content reference) (Err DoesNotFit) (split_refused content reference over c) (false, λ b i. absurd i))
    (λ (c : is_compressed content.coding ≡ false).
    alike_in (split_of content reference) (numbered_all content reference (pieces_of content.coding content.units)) (split_cut content reference over c)
    (cut_alike content reference (pieces_of content.coding content.units)))
    (cases_Bool (is_compressed content.coding)))
    (λ (fits : length content.units ≤ capacity content.coding).
    alike_in (split_of content reference) (Ok (alone content)) (split_alone content reference fits) (false, λ b i. ⊎_elim (λ e. ap (λ (x : SinglePart). x.header_indicator) e) (λ (j : ⊥). absurd j) i))
    (cases_lt (capacity content.coding) (length content.units))

-- ---- a submission is accepted

module _ (u : SubmissionRow) (fit : IsSubmission u) (s : Store) (w : World) (sound : SoundStore s) (refines : StoreRefines s w) where
  abbrev id : ℕ
  id = next_number (rows_of s)

  under : (split : Option ℕ) (reference : ℕ) → Submits w s.moment (accept_under id split (bodies_under reference u.text) u s)
  under split reference =
      let alike = bodies_alike reference u.text in
      let new : (x : MessageRow) → Among x (messages_in s) → x.id < id = λ x among. below_next_number (rows_of s) x sound.consistent.message_keys among in
      any_submits (entered_as id u alike.0 (bodies_under reference u.text)) w s.moment (accept_under id split (bodies_under reference u.text) u s)
      (under_submits id split u alike.0 (bodies_under reference u.text) fit s w sound refines new (fit.some reference) (fit.few reference) (λ b i. (fit.bodies reference b i, alike.1 b i)))

  splits : (o : Option ℕ) → Submits w s.moment (accept_split id o u s)
  splits None = tt
  splits (Some reference) = under (Some reference) reference

  pub accept_submits : Submits w s.moment (accept u s)
  accept_submits =
      cond_both (nat_le id 9999999999) (accept_as id u s) None (λ (o : Option Store). Submits w s.moment o)
      (λ t. cond_both (is_long u.text) (accept_split id (next_split u.source u.handset (bars_in s) (messages_in s) (parts_in s)) u s) (accept_under id None (bodies_under 0 u.text) u s) (λ (o : Option Store). Submits w s.moment o)
      (λ e. splits (next_split u.source u.handset (bars_in s) (messages_in s) (parts_in s))) (λ e. under None 0))
      (λ t. tt)

-- ---- the event

refused_acts : (a : CentreAnswer) (d : Draft) (w : World) → CentreRefines w d w → Acts Submitted d.store.moment w (answer_with a d)
refused_acts a d w s = record {
  own = [];
  follows = [];
  is_own = inl refl;
  may_follow = tt;
  own_centre = tt;
  follows_centre = tt;
  own_runs = tt;
  runs = tt;
  refines = answer_refines w a d w s;
}

accepted_acts : (number : ℕ) (o : Option Store) (d : Draft) (w : World) → CentreRefines w d w → Submits w d.store.moment o → Acts Submitted d.store.moment w (accepted number o d)
accepted_acts number None d w s k = refused_acts _ d w s
accepted_acts number (Some e) d w s (v, (tickets, (can, refines))) = record {
  own = SubmitStep v tickets ∷ [];
  follows = [];
  is_own = inr (v, tickets, refl);
  may_follow = tt;
  own_centre = (tt, tt);
  follows_centre = tt;
  own_runs = (can, tt);
  runs = tt;
  refines = answer_refines w (SubmittedAnswer number) (in_store e d) (submitted w d.store.moment v tickets) (store_is_reached w e d w (submitted w d.store.moment v tickets) s refines refl);
}

arrived_acts : (r : Result SubmissionRow CommandStatus) (d : Draft) (w : World) → SoundStore d.store → CentreRefines w d w → ((u : SubmissionRow) → r ≡ Ok u → IsSubmission u)
    → Acts Submitted d.store.moment w (submission_received r d)
arrived_acts (Err status) d w sound s fit = refused_acts _ d w s
arrived_acts (Ok u) d w sound s fit =
    let o : Option Store = unless_too_much u (accept u d.store) in
    let number : ℕ = next_number (rows_of d.store) in
    cond_both (is_reference_taken u d.store) (refused ESME_RSUBMITFAIL d) (accepted number o d) (λ (e : Draft). Acts Submitted d.store.moment w e)
    (λ t. refused_acts _ d w s)
    (λ t. accepted_acts number o d w s
    (unless_kept (λ (x : Option Store). Submits w d.store.moment x) u (accept u d.store) tt (accept_submits u (fit u refl) d.store w sound s.rows)))

submit_acts : (a : Option CentreAccount) (m : Pdu) (d : Draft) (w : World) → SoundStore d.store → CentreRefines w d w → AccountGives a d.store.moment m → Acts Submitted d.store.moment w (submit_by a m d)
submit_acts None m d w sound s g = refused_acts _ d w s
submit_acts (Some a) m d w sound s g = arrived_acts (from_pdu a d.store.moment m) d w sound s g

pub submit_event : SubmitLaw
submit_event account m c w sound s =
    let d : Draft = draft_of c in
    let g = event_gives (Submit account m) c sound tt in
    acts_lead Submitted (λ x k. k) c.moment w (submit account m d) (submit_acts (account_at account c.rows.setup.accounts) m d w (start c sound) s g)
    (event_after (Submit account m) c sound tt g).store.0
