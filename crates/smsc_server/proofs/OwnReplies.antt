-- What each connection of a seat hears is its own: nobody is at the seat as it begins.
use Rattle.std.proofs.Common.{◌≡◌, ◌==◌, ◌⊎◌, ◌∙◌, inl, inr, ⊎_elim, ℕ, Bool, true, false, true≢false, List, [], ◌∷◌, ◌++◌, Option, Some, None, if◌then◌else◌, refl, sym, ap, subst, eq-eqb, append_assoc, append-nil}
use Rattle.std.specs.Prelude.{⊤, nat_lt, is_none}
use Rattle.std.proofs.lemmas.Bool.{and_parts, cases_Bool, cases_eq, cond-false, cond-true, ne_eqb}
use Rattle.sms_base.specs.Among.{Among}
use Rattle.sms_centre_spec.specs.SoundRows.{IsSound}
use Rattle.sms_centre_spec.specs.declared.event.CentreEvent.{CentreEvent}
use Rattle.sms_centre_spec.specs.declared.jobs.job.Job.{Job}
use Rattle.sms_centre_spec.specs.declared.jobs.job.Job.TheVariants.{Bound, Unbound, Submit, Query, Cancel, DeliverAnswered, LinkUp, LinkDown, Frame}
use Rattle.sms_centre_spec.specs.declared.jobs.reply.Reply.{Reply}
use Rattle.sms_centre_spec.specs.declared.rows.Rows.{Rows}
use Rattle.sms_keeper.specs.declared.machine.Fate.{Fate}
use Rattle.sms_keeper.specs.declared.machine.Fate.TheVariants.{Done, NoMemory, Refused}
use Rattle.sms_keeper.specs.declared.machine.Item.{Item}
use Rattle.sms_keeper.specs.declared.machine.Stimulus.{Stimulus}
use Rattle.sms_keeper.specs.declared.machine.Stimulus.TheVariants.{Job as JobOf, Tick, Own}
use Rattle.sms_keeper.specs.declared.outs.Out.{Out}
use Rattle.sms_keeper.specs.History.{IsHistory}
use Rattle.sms_receipt.specs.declared.final_message.Final.{Final}
use Rattle.sms_rows.specs.table.Table.{put, row_at, without}
use Rattle.sms_rows.proofs.table.Tables.{among_found, row_at_put, row_at_put_other, row_at_without, row_at_without_other}
use Rattle.smsc_service.specs.Asking.{asked, asked_by}
use Rattle.smsc_service.specs.Seats.{Seats, bound_session_key, followed, is_vacant, link_key, nobody}
use Rattle.smsc_service.specs.Serving.{Serving, after, after_for, followed_by, gives, restarted}
use Rattle.smsc_service.specs.declared.asking.SeatRequest.{SeatRequest}
use Rattle.smsc_service.specs.declared.asking.SeatRequest.TheVariants.{Event, Nothing, Taken, Forget, Enrol}
use Rattle.smsc_service.specs.declared.seat_map.BoundSession.{BoundSession}
use Rattle.smsc_service.specs.declared.seat_map.LinkSeat.{LinkSeat}
use Rattle.smsc_server.specs.AccountsCome.{accounts_behind}
use Rattle.smsc_server.specs.Forgotten.{Behind}
use Rattle.smsc_server.specs.FramesGiven.{IsLinked, frame_for}
use Rattle.smsc_server.specs.OwnReplies.{GoToOwnAccount, GoToOwnHandset, HearTheirOwn, HearsOwn, IsOfOwnHandset}
use Rattle.smsc_server.specs.ReceiptsGiven.{Binding, GoToAccounts, IsOfAccount, bound_after, bound_behind, bound_by, bound_there}
use Rattle.smsc_server.specs.RunPromises.{AreAsked, receipt_for}
use Rattle.smsc_server.specs.serving.Connections.{Admitted, Connection, calls_of}
use Rattle.smsc_server.specs.serving.Stretches.{HaveVacated}
use Rattle.smsc_server.proofs.FramesGo.{AreLinked, IsAt, IsNamed, at_seat, named, no_links, run_links, was_sent}
use Rattle.smsc_server.proofs.ReceiptsGo.{IsSame, both_same, other, receipts_go}
use Rattle.smsc_server.proofs.RunKept.{between}

-- ---- who is bound at a seat, by who sits there

abbrev binding_of : Option BoundSession → Option Binding
binding_of None = None
binding_of (Some b) = Some (b.account, b.receives)

abbrev SitsAs : ℕ → Seats → Option Binding → Type 0
SitsAs n seats bound = binding_of (row_at bound_session_key n seats.bound_sessions) ≡ bound

abbrev AsksNone : SeatRequest → Type 0
AsksNone (Event event) = ⊥
AsksNone Nothing = Unit {0}
AsksNone Taken = Unit {0}
AsksNone (Forget before from most) = Unit {0}
AsksNone (Enrol account) = Unit {0}

module _ (n : ℕ) (few : nat_lt n 32 ≡ true) (bound : Option Binding) (s : Serving) where
  same_there : (seat : ℕ) (job : Job) → IsSame s.seats seat job → bound_there n (JobOf seat job) bound ≡ bound
  same_there seat job h = ap (λ (o : Option Binding). if n == seat then o else bound) (h.1 bound) ∙ both_same (n == seat) bound

  far_there : (seat : ℕ) (job : Job) → nat_lt seat 32 ≡ false → bound_there n (JobOf seat job) bound ≡ bound
  far_there seat job far =
      cond-false (n == seat) (bound_by job bound) bound (ne_eqb n seat (λ (e : n ≡ seat). true≢false (sym few ∙ (ap (λ (k : ℕ). nat_lt k 32) e ∙ far))))

  job_there : (seat : ℕ) (job : Job) → AsksNone (asked s.seats seat job) → bound_there n (JobOf seat job) bound ≡ bound
  job_there seat (Bound account receives) none = absurd none
  job_there seat Unbound none = absurd none
  job_there seat job none = same_there seat job (other s.seats seat job tt)

  none_there : (stimulus : Stimulus Job) → AsksNone (asked_by s.seats stimulus) → bound_there n stimulus bound ≡ bound
  none_there (Tick now) none = absurd none
  none_there (Own errand) none = refl
  none_there (JobOf seat job) none = ⊎_elim
      (λ (t : nat_lt seat 32 ≡ true). job_there seat job (subst AsksNone (cond-true (nat_lt seat 32) (asked s.seats seat job) Nothing t) none))
      (λ (t : nat_lt seat 32 ≡ false). far_there seat job t)
      (cases_Bool (nat_lt seat 32))

  sits_at : (seat : ℕ) (job : Job) → SitsAs n s.seats bound → SitsAs n (followed seat job s.seats) (bound_there n (JobOf seat job) bound)
  sits_at seat (Bound account receives) h =
      let new : BoundSession = record { seat = seat; account = account; receives = receives } in
      let now : Option Binding = Some (account, receives) in
      ⊎_elim
      (λ (e : n ≡ seat).
      ap binding_of (ap (λ (k : ℕ). row_at bound_session_key k (put bound_session_key new s.seats.bound_sessions)) e ∙ row_at_put bound_session_key new s.seats.bound_sessions)
      ∙ sym (cond-true (n == seat) now bound (eq-eqb n seat e)))
      (λ (ne : n ≡ seat → ⊥).
      ap binding_of (row_at_put_other bound_session_key n new s.seats.bound_sessions (λ (q : seat ≡ n). ne (sym q)))
      ∙ (h ∙ sym (cond-false (n == seat) now bound (ne_eqb n seat ne))))
      (cases_eq n seat)
  sits_at seat Unbound h =
      ⊎_elim
      (λ (e : n ≡ seat).
      ap binding_of (ap (λ (k : ℕ). row_at bound_session_key n (without bound_session_key k s.seats.bound_sessions)) (sym e) ∙ row_at_without bound_session_key n s.seats.bound_sessions)
      ∙ sym (cond-true (n == seat) None bound (eq-eqb n seat e)))
      (λ (ne : n ≡ seat → ⊥).
      ap binding_of (row_at_without_other bound_session_key seat n s.seats.bound_sessions (λ (q : seat ≡ n). ne (sym q)))
      ∙ (h ∙ sym (cond-false (n == seat) None bound (ne_eqb n seat ne))))
      (cases_eq n seat)
  sits_at seat job h =
      let same = other s.seats seat job tt in
      ap (λ (l : List BoundSession). binding_of (row_at bound_session_key n l)) same.2 ∙ (h ∙ sym (same_there seat job same))

  sits_then : (stimulus : Stimulus Job) → SitsAs n s.seats bound → SitsAs n (followed_by stimulus s.seats) (bound_there n stimulus bound)
  sits_then (Tick now) h = h
  sits_then (Own errand) h = h
  sits_then (JobOf seat job) h = ⊎_elim
      (λ (t : nat_lt seat 32 ≡ true).
      subst (λ (x : Seats). SitsAs n x (bound_there n (JobOf seat job) bound)) (sym (cond-true (nat_lt seat 32) (followed seat job s.seats) s.seats t)) (sits_at seat job h))
      (λ (t : nat_lt seat 32 ≡ false).
      subst (λ (x : Seats). SitsAs n x (bound_there n (JobOf seat job) bound)) (sym (cond-false (nat_lt seat 32) (followed seat job s.seats) s.seats t))
      (h ∙ sym (far_there seat job t)))
      (cases_Bool (nat_lt seat 32))

  sits_request : (stimulus : Stimulus Job) (a : SeatRequest) (fate : Fate) → asked_by s.seats stimulus ≡ a → SitsAs n s.seats bound
      → SitsAs n (after_for a fate s stimulus).seats (bound_behind n bound stimulus fate)
  sits_request stimulus (Event event) Done e h = sits_then stimulus h
  sits_request stimulus (Event event) NoMemory e h = h
  sits_request stimulus (Event event) Refused e h = sits_then stimulus h
  sits_request stimulus Nothing Done e h = h ∙ sym (none_there stimulus (subst AsksNone (sym e) tt))
  sits_request stimulus Nothing NoMemory e h = h
  sits_request stimulus Nothing Refused e h = h ∙ sym (none_there stimulus (subst AsksNone (sym e) tt))
  sits_request stimulus Taken Done e h = h ∙ sym (none_there stimulus (subst AsksNone (sym e) tt))
  sits_request stimulus Taken NoMemory e h = h
  sits_request stimulus Taken Refused e h = h ∙ sym (none_there stimulus (subst AsksNone (sym e) tt))
  sits_request stimulus (Forget before from most) Done e h = h ∙ sym (none_there stimulus (subst AsksNone (sym e) tt))
  sits_request stimulus (Forget before from most) NoMemory e h = h
  sits_request stimulus (Forget before from most) Refused e h = h ∙ sym (none_there stimulus (subst AsksNone (sym e) tt))
  sits_request stimulus (Enrol account) Done e h = h ∙ sym (none_there stimulus (subst AsksNone (sym e) tt))
  sits_request stimulus (Enrol account) NoMemory e h = h
  sits_request stimulus (Enrol account) Refused e h = h ∙ sym (none_there stimulus (subst AsksNone (sym e) tt))

run_sits : (n : ℕ) → nat_lt n 32 ≡ true → (items : List (Item Job Reply)) (bound : Option Binding) (s t : Serving) → SitsAs n s.seats bound
    → IsHistory gives after s items t → SitsAs n t.seats (bound_after n bound items)
run_sits n few [] bound s t k h = subst (λ (x : Serving). SitsAs n x.seats bound) (sym h) k
run_sits n few (e ∷ items) bound s t k h =
    run_sits n few items (bound_behind n bound e.stimulus e.fate) (after s e.stimulus e.fate) t
    (sits_request n few bound s e.stimulus (asked_by s.seats e.stimulus) e.fate refl k) h.1

-- ---- nobody is at the seat

none_is : {A : Type 0} (o : Option A) → is_none o ≡ true → o ≡ None
none_is None e = refl
none_is (Some x) e = absurd (true≢false (sym e))

some_none : {A : Type 0} (x : A) (o : Option A) → o ≡ Some x → o ≡ None → ⊥
some_none x o e f = let never : Some x ≡ None = sym e ∙ f in absurd cc

module _ (n : ℕ) (s : Serving) (vacant : is_vacant n s.seats ≡ true) where
  no_sitting : row_at bound_session_key n s.seats.bound_sessions ≡ None
  no_sitting = none_is (row_at bound_session_key n s.seats.bound_sessions)
      (and_parts (is_none (row_at bound_session_key n s.seats.bound_sessions)) (is_none (row_at link_key n s.seats.links)) vacant).0

  no_link : row_at link_key n s.seats.links ≡ None
  no_link = none_is (row_at link_key n s.seats.links)
      (and_parts (is_none (row_at bound_session_key n s.seats.bound_sessions)) (is_none (row_at link_key n s.seats.links)) vacant).1

  none_bound : nat_lt n 32 ≡ true → (rows : Rows) (before : List (Item Job Reply)) → IsHistory gives after (restarted rows nobody) before s → bound_after n None before ≡ None
  none_bound few rows before h = sym (run_sits n few before None (restarted rows nobody) s refl h) ∙ ap binding_of no_sitting

  none_linked : (rows : Rows) (before : List (Item Job Reply)) → IsHistory gives after (restarted rows nobody) before s → AreLinked (λ (k : ℕ). k ≡ n) [] s.seats.links
  none_linked rows before h =
      let all = run_links (λ (k : ℕ). ⊤) [] before (restarted rows nobody) s (no_links (λ (k : ℕ). ⊤) rows) h in record {
        keys = all.keys;
        each = λ l i. let x = all.each l i in (
          x.0,
          x.1,
          λ (at : l.seat ≡ n).
              absurd (some_none l (row_at link_key n s.seats.links)
              (ap (λ (k : ℕ). row_at link_key k s.seats.links) (sym at) ∙ among_found link_key l s.seats.links all.keys i) no_link),
        );
      }

-- ---- a stretch of the history

bound_join : (n : ℕ) (bound : Option Binding) (one two : List (Item Job Reply)) → bound_after n bound (one ++ two) ≡ bound_after n (bound_after n bound one) two
bound_join n bound [] two = refl
bound_join n bound (e ∷ one) two = bound_join n (bound_behind n bound e.stimulus e.fate) one two

history_join : (one two : List (Item Job Reply)) (s m t : Serving) → IsHistory gives after s one m → IsHistory gives after m two t → IsHistory gives after s (one ++ two) t
history_join [] two s m t h k = subst (λ (x : Serving). IsHistory gives after x two t) h k
history_join (e ∷ one) two s m t h k = (h.0, history_join one two (after s e.stimulus e.fate) m t h.1 k)

linked_behind : (n : ℕ) (handset : List ℕ) (before one : List (Item Job Reply)) → IsLinked n handset one → IsLinked n handset (before ++ one)
linked_behind n handset before one h =
    (before ++ h.0, h.1, h.2, ap (λ (l : List (Item Job Reply)). before ++ l) h.3 ∙ sym (append_assoc before h.0 (h.2 ∷ h.1)), h.4, h.5)

module _ (seat : ℕ) (few : nat_lt seat 32 ≡ true) (rows : Rows) (before own later : List (Item Job Reply)) (s t last : Serving)
    (run_before : IsHistory gives after (restarted rows nobody) before s) (run_own : IsHistory gives after s own t)
    (vacant : is_vacant seat s.seats ≡ true) where
  -- the items as the whole history has them
  parts : (all one other : List (Item Job Reply)) (e : Item Job Reply) → all ≡ before ++ (own ++ later) → own ≡ one ++ e ∷ other
      → all ≡ (before ++ one) ++ e ∷ (other ++ later)
  parts all one other e is part =
      is ∙ (ap (λ (l : List (Item Job Reply)). before ++ (l ++ later)) part
      ∙ (ap (λ (l : List (Item Job Reply)). before ++ l) (append_assoc one (e ∷ other) later) ∙ sym (append_assoc before one (e ∷ (other ++ later)))))

  own_receipts : (all : List (Item Job Reply)) → all ≡ before ++ (own ++ later) → GoToAccounts rows all → GoToOwnAccount seat rows before own later
  own_receipts all is goes one other e end part there =
      let g = goes (before ++ one) (other ++ later) e seat end (parts all one other e is part) there in
      let same : (before ++ one) ++ e ∷ [] ≡ before ++ (one ++ e ∷ []) = append_assoc before one (e ∷ []) in
      let bound : bound_after seat None (before ++ (one ++ e ∷ [])) ≡ bound_after seat None (one ++ e ∷ []) =
      bound_join seat None before (one ++ e ∷ []) ∙ ap (λ (o : Option Binding). bound_after seat o (one ++ e ∷ [])) (none_bound seat s vacant few rows before run_before) in
      subst (λ (o : Option Binding). Behind (restarted rows nobody) (before ++ (one ++ e ∷ []))
      (λ x. IsOfAccount (accounts_behind rows.setup.accounts (before ++ (one ++ e ∷ []))) x (other ++ later) o end)) bound
      (subst (λ (l : List (Item Job Reply)). Behind (restarted rows nobody) l
      (λ x. IsOfAccount (accounts_behind rows.setup.accounts l) x (other ++ later) (bound_after seat None l) end)) same g)

  own_frames : GoToOwnHandset seat (restarted rows nobody) before own
  own_frames one other e octets part there =
      let m = between one (e ∷ other) s t (subst (λ (l : List (Item Job Reply)). IsHistory gives after s l t) part run_own) in
      let links = run_links (λ (k : ℕ). k ≡ seat) [] one s m.0 (none_linked seat s vacant rows before run_before) m.1 in
      let sent = was_sent seat octets m.0 e.stimulus e.fate (subst (λ (l : List (Out Reply)). Among (frame_for seat octets) l) m.2.0 there) in
      let f = sent.2.0 in
      let is : IsNamed e.stimulus m.0.seats.links f.handset seat = named e.stimulus m.0.seats.links f.handset seat sent.2.3 in
      let linked : IsLinked seat f.handset one ⊎ (e.stimulus ≡ JobOf seat (LinkUp f.handset)) = ⊎_elim
      (λ (up : e.stimulus ≡ JobOf seat (LinkUp f.handset)). inr up)
      (λ (at : IsAt f.handset seat m.0.seats.links). inl (at_seat seat f.handset (λ (k : ℕ). k ≡ seat) one m.0.seats.links refl links at))
      is in
      record {
        goes = record {
          handset = f.handset;
          linked = ⊎_elim (λ (h : IsLinked seat f.handset one). inl (linked_behind seat f.handset before one h))
              (λ (up : e.stimulus ≡ JobOf seat (LinkUp f.handset)). inr up) linked;
          moment = m.0;
          history = history_join before one (restarted rows nobody) s m.0 run_before m.1;
          event = sent.0;
          event_so = sent.1;
          sent = f;
          is_sent = sent.2.1;
          handset_so = refl;
          octets_so = sent.2.2;
        };
        own = linked;
      }

  hears : (all : List (Item Job Reply)) → all ≡ before ++ (own ++ later) → GoToAccounts rows all → HearsOwn seat rows before own later
  hears all is goes = record { receipts = own_receipts all is goes; frames = own_frames }

module _ {S : Type 0} (remaining contents : S → Option (List ℕ)) (admitted : Admitted) (seat : ℕ) (few : nat_lt seat 32 ≡ true) (rows : Rows)
    (all : List (Item Job Reply)) (goes : GoToAccounts rows all) where
  pub hear_own : (cs : List (Connection remaining contents admitted)) (before items : List (Item Job Reply)) (s t : Serving)
      → IsHistory gives after (restarted rows nobody) before s → IsHistory gives after s items t → is_vacant seat s.seats ≡ true → all ≡ before ++ items
      → HaveVacated remaining contents admitted seat s cs items → HearTheirOwn remaining contents admitted seat rows before cs items
  hear_own [] before items s t first run vacant is h = tt
  hear_own (c ∷ []) before items s t first run vacant is h =
      (h, hears seat few rows before items [] s t t first run vacant all (is ∙ ap (λ (l : List (Item Job Reply)). before ++ l) (sym (append-nil items))) goes)
  hear_own (c ∷ next ∷ cs) before items s t first run vacant is h =
      let m = between h.0 h.1 s t (subst (λ (l : List (Item Job Reply)). IsHistory gives after s l t) h.3 run) in
      let same : m.0 ≡ h.2 = one_end h.0 s m.0 h.2 m.1 h.5 in
      let whole : all ≡ before ++ (h.0 ++ h.1) = is ∙ ap (λ (l : List (Item Job Reply)). before ++ l) h.3 in (
        h.0,
        h.1,
        h.3,
        h.4,
        hears seat few rows before h.0 h.1 s h.2 t first h.5 vacant all whole goes,
        hear_own (next ∷ cs) (before ++ h.0) h.1 h.2 t (history_join before h.0 (restarted rows nobody) s h.2 first h.5)
            (subst (λ (x : Serving). IsHistory gives after x h.1 t) same m.2) (h.6 vacant) (whole ∙ sym (append_assoc before h.0 h.1)) h.7,
      )
    where
      one_end : (part : List (Item Job Reply)) (from a b : Serving) → IsHistory gives after from part a → IsHistory gives after from part b → a ≡ b
      one_end [] from a b f g = f ∙ sym g
      one_end (e ∷ part) from a b f g = one_end part (after from e.stimulus e.fate) a b f.1 g.1

  pub nobody_there : is_vacant seat (restarted rows nobody).seats ≡ true
  nobody_there = refl
