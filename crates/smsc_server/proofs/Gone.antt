-- What a run forgot is among what it has of that.
use Rattle.std.proofs.Common.{◌≡◌, ⊎_elim, ℕ, true, false, true≢false, List, [], ◌∷◌, ◌++◌, Some, inl, inr, sym, ap, subst, ◌∙◌}
use Rattle.std.proofs.lemmas.Bool.{cond-false, cond-true, cases_Bool}
use Rattle.sms_base.proofs.Lists.{among_back, among_front}
use Rattle.sms_base.specs.Among.{Among}
use Rattle.sms_rows.proofs.table.Tables.{found_among, found_key}
use Rattle.sms_centre_rows.specs.declared.messages.message.MessageRow.{MessageRow}
use Rattle.sms_centre_rows.specs.messages.Messages.{message_at, message_key}
use Rattle.sms_centre_rows.specs.messages.SplitReferences.{is_among}
use Rattle.sms_centre_spec.specs.declared.jobs.job.Job.{Job}
use Rattle.sms_centre_spec.specs.declared.jobs.reply.Reply.{Reply}
use Rattle.sms_centre_spec.specs.declared.rows.Rows.{Rows}
use Rattle.sms_centre_spec.specs.forgetting.Forget.{going_now}
use Rattle.sms_keeper.specs.declared.machine.Fate.{Fate}
use Rattle.sms_keeper.specs.declared.machine.Fate.TheVariants.{Done, NoMemory, Refused}
use Rattle.sms_keeper.specs.declared.machine.Item.{Item}
use Rattle.sms_keeper.specs.History.{IsHistory}
use Rattle.smsc_service.specs.Asking.{asked_by}
use Rattle.smsc_service.specs.Course.{Course, Gone, after as course_after, gives as course_gives, numbered, parts_of, went, went_for}
use Rattle.smsc_service.specs.Serving.{Serving, after, gives}
use Rattle.smsc_service.specs.declared.asking.SeatRequest.{SeatRequest}
use Rattle.smsc_service.specs.declared.asking.SeatRequest.TheVariants.{Event, Nothing, Taken, Forget, Enrol}
use Rattle.smsc_server.specs.Forgotten.{IsSoOfGone, forgets, forgets_for}

abbrev gone_of : MessageRow → Rows → Gone
gone_of m rows = record { message = m; parts = parts_of m.id rows }

among_numbered : (ids : List ℕ) (rows : Rows) (m : MessageRow) (ms : List MessageRow) → Among m ms → is_among m.id ids ≡ true → Among (gone_of m rows) (numbered ids rows ms)
among_numbered ids rows m [] there is = absurd there
among_numbered ids rows m (x ∷ xs) there is = ⊎_elim
    (λ (t : is_among x.id ids ≡ true).
    subst (λ (l : List Gone). Among (gone_of m rows) l) (sym (cond-true (is_among x.id ids) (gone_of x rows ∷ numbered ids rows xs) (numbered ids rows xs) t))
    (⊎_elim (λ (e : m ≡ x). inl (ap (λ (y : MessageRow). gone_of y rows) e)) (λ (b : Among m xs). inr (among_numbered ids rows m xs b is)) there))
    (λ (t : is_among x.id ids ≡ false).
    subst (λ (l : List Gone). Among (gone_of m rows) l) (sym (cond-false (is_among x.id ids) (gone_of x rows ∷ numbered ids rows xs) (numbered ids rows xs) t))
    (⊎_elim
    (λ (e : m ≡ x). absurd (true≢false (sym is ∙ (ap (λ (y : MessageRow). is_among y.id ids) e ∙ t))))
    (λ (b : Among m xs). among_numbered ids rows m xs b is)
    there))
    (cases_Bool (is_among x.id ids))

went_among : (a : SeatRequest) (fate : Fate) (s : Serving) (id : ℕ) (row : MessageRow) → forgets_for a fate s id ≡ true → message_at id s.core.rows.messages ≡ Some row
    → Among (gone_of row s.core.rows) (went_for a fate s)
went_among (Event event) fate s id row e found = absurd (true≢false (sym e))
went_among Nothing fate s id row e found = absurd (true≢false (sym e))
went_among Taken fate s id row e found = absurd (true≢false (sym e))
went_among (Forget before from most) Done s id row e found =
    let ids = going_now before from most s.core in
    let ms = s.core.rows.messages in
    among_numbered ids s.core.rows row ms (found_among message_key id row ms found) (subst (λ (n : ℕ). is_among n ids ≡ true) (sym (found_key message_key id row ms found)) e)
went_among (Forget before from most) NoMemory s id row e found = absurd (true≢false (sym e))
went_among (Forget before from most) Refused s id row e found = absurd (true≢false (sym e))
went_among (Enrol account) fate s id row e found = absurd (true≢false (sym e))

-- what it had forgotten it has forgotten still
gone_still : (items : List (Item Job Reply)) (c t : Course) → IsHistory course_gives course_after c items t → (m : Gone) → Among m c.gone → Among m t.gone
gone_still [] c t h m k = subst (λ (x : Course). Among m x.gone) (sym h) k
gone_still (e ∷ items) c t h m k =
    gone_still items (course_after c e.stimulus e.fate) t h.1 m (among_back m (went c.serving e.stimulus e.fate) c.gone k)

-- it is a history of the centre
pub is_history : (items : List (Item Job Reply)) (c t : Course) → IsHistory course_gives course_after c items t → IsHistory gives after c.serving items t.serving
is_history [] c t h = ap (λ (x : Course). x.serving) h
is_history (e ∷ items) c t h = (h.0, is_history items (course_after c e.stimulus e.fate) t h.1)

gone_among : (one other : List (Item Job Reply)) (e : Item Job Reply) (c t : Course) (s : Serving) (id : ℕ) (row : MessageRow)
    → IsHistory course_gives course_after c (one ++ e ∷ other) t → IsHistory gives after c.serving one s
    → forgets s e id ≡ true → message_at id s.core.rows.messages ≡ Some row → Among (gone_of row s.core.rows) t.gone
gone_among [] other e c t s id row h first goes found =
    subst (λ (x : Serving). Among (gone_of row x.core.rows) t.gone) (sym first)
    (gone_still other (course_after c e.stimulus e.fate) t h.1 (gone_of row c.serving.core.rows)
    (among_front (gone_of row c.serving.core.rows) (went c.serving e.stimulus e.fate) c.gone
    (went_among (asked_by c.serving.seats e.stimulus) e.fate c.serving id row (subst (λ (x : Serving). forgets x e id ≡ true) first goes)
    (subst (λ (x : Serving). message_at id x.core.rows.messages ≡ Some row) first found))))
gone_among (x ∷ one) other e c t s id row h first goes found =
    gone_among one other e (course_after c x.stimulus x.fate) t s id row h.1 first.1 goes found

-- what is so of all that it has forgotten is so of each message that an item made it forget
pub gone_so : (Is : MessageRow → ℕ → Type 0) (items : List (Item Job Reply)) (c t : Course) → IsHistory course_gives course_after c items t
    → ((x : Gone) → Among x t.gone → Is x.message x.parts) → IsSoOfGone Is c.serving items
gone_so Is items c t h so one other e s id row split first goes found =
    subst (λ (n : ℕ). Is row (parts_of n s.core.rows)) (found_key message_key id row s.core.rows.messages found)
    (so (gone_of row s.core.rows) (gone_among one other e c t s id row (subst (λ (l : List (Item Job Reply)). IsHistory course_gives course_after c l t) split h) first goes found))
