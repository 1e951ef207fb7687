-- What an archive has of what a run forgot, one step further.
use Rattle.std.proofs.Common.{◌≡◌, ⊎_elim, ℕ, List, [], ◌∷◌, ◌++◌, true, inl, inr, refl, subst, sym}
use Rattle.std.proofs.lemmas.Bool.{cond_both}
use Rattle.sms_base.proofs.Lists.{among_parts}
use Rattle.sms_base.specs.Among.{Among}
use Rattle.sms_centre.specs.Archiving.{AreArchived, Stays, parts_in}
use Rattle.sms_centre_rows.specs.declared.messages.message.MessageRow.{MessageRow}
use Rattle.sms_centre_rows.specs.messages.SplitReferences.{is_among}
use Rattle.sms_centre_spec.specs.declared.rows.Rows.{Rows}
use Rattle.sms_centre_spec.specs.forgetting.Forget.{going_now}
use Rattle.sms_keeper.specs.declared.machine.Fate.{Fate}
use Rattle.sms_keeper.specs.declared.machine.Fate.TheVariants.{Done, NoMemory, Refused}
use Rattle.smsc_service.specs.Asking.{IfForget}
use Rattle.smsc_service.specs.Course.{Gone, numbered, parts_of, went_for}
use Rattle.smsc_service.specs.Serving.{Serving}
use Rattle.smsc_service.specs.declared.asking.SeatRequest.{SeatRequest}
use Rattle.smsc_service.specs.declared.asking.SeatRequest.TheVariants.{Event, Nothing, Taken, Forget, Enrol}

module _ (has : MessageRow → ℕ → Type 0) where
  abbrev pub AreHad : List Gone → Type 0
  AreHad gone = (x : Gone) → Among x gone → has x.message x.parts

  -- each of those with one of these numbers is in the archive
  pub numbered_archived : (ids : List ℕ) (rows : Rows) (ms : List MessageRow) → ((m : MessageRow) → Among m ms → is_among m.id ids ≡ true → has m (parts_of m.id rows)) → AreHad (numbered ids rows ms)
  numbered_archived ids rows [] h x among = absurd among
  numbered_archived ids rows (m ∷ ms) h x among =
      let first : Gone = record { message = m; parts = parts_of m.id rows } in
      cond_both (is_among m.id ids) (first ∷ numbered ids rows ms) (numbered ids rows ms) (λ (l : List Gone). Among x l → has x.message x.parts)
      (λ e here. ⊎_elim
      (λ (same : x ≡ first). subst (λ (y : Gone). has y.message y.parts) (sym same) (h m (inl refl) e))
      (λ (b : Among x (numbered ids rows ms)). numbered_archived ids rows ms (λ y k q. h y (inr k) q) x b)
      here)
      (λ e here. numbered_archived ids rows ms (λ y k q. h y (inr k) q) x here) among

  -- what was asked was archived, as what was forgotten before
  pub archived_more : (a : SeatRequest) (fate : Fate) (s : Serving) (gone : List Gone)
      → (fate ≡ Done → IfForget (λ before from most. AreArchived has (going_now before from most s.core) s.core.rows) a)
      → AreHad gone → AreHad (went_for a fate s ++ gone)
  archived_more (Event event) fate s gone new old = old
  archived_more Nothing fate s gone new old = old
  archived_more Taken fate s gone new old = old
  archived_more (Forget before from most) Done s gone new old = λ x among.
      let went = numbered (going_now before from most s.core) s.core.rows s.core.rows.messages in
      ⊎_elim
      (λ (k : Among x went). numbered_archived (going_now before from most s.core) s.core.rows s.core.rows.messages (new refl) x k)
      (λ (k : Among x gone). old x k)
      (among_parts x went gone among)
  archived_more (Forget before from most) NoMemory s gone new old = old
  archived_more (Forget before from most) Refused s gone new old = old
  archived_more (Enrol account) fate s gone new old = old

  -- what is refused forgets nothing
  pub archived_still : (a : SeatRequest) (s : Serving) (gone : List Gone) → AreHad gone → AreHad (went_for a Refused s ++ gone)
  archived_still (Event event) s gone old = old
  archived_still Nothing s gone old = old
  archived_still Taken s gone old = old
  archived_still (Forget before from most) s gone old = old
  archived_still (Enrol account) s gone old = old

-- what was archived is so in an archive that keeps it
pub forgets_to : (had has : MessageRow → ℕ → Type 0) → Stays had has → (a : SeatRequest) (s : Serving)
    → IfForget (λ before from most. AreArchived had (going_now before from most s.core) s.core.rows) a
    → IfForget (λ before from most. AreArchived has (going_now before from most s.core) s.core.rows) a
forgets_to had has stays (Event event) s h = tt
forgets_to had has stays Nothing s h = tt
forgets_to had has stays Taken s h = tt
forgets_to had has stays (Enrol account) s h = tt
forgets_to had has stays (Forget before from most) s h = λ m among is. stays m (parts_in s.core.rows m.id) (h m among is)
