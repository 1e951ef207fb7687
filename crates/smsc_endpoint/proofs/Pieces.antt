-- Octets that arrive in two pieces do to a session what both do together.
use Rattle.std.proofs.Common.{◌≡◌, ◌⊎◌, inl, inr, ◌&&◌, ℕ, ◌+◌, ◌-◌, Bool, true, false, cond, eqb, eqb-true, List, [], ◌∷◌, ◌++◌, length, length-append, Option, Some, None, refl, sym, ap, ◌∙◌, arith, append-nil}
use Rattle.sms_base.proofs.Bools.{and_false}
use Rattle.smpp_pdu.specs.declared.header.Header.{Header}
use Rattle.smpp_pdu.specs.Statuses.{status_number}
use Rattle.smpp_session.specs.declared.action.Action.{Action}
use Rattle.smpp_session.specs.declared.action.Action.TheVariants.{Send, Bound, Submit, Query, Cancel, DeliverAnswered, BindRefused, Unbound}
use Rattle.smpp_session.specs.declared.answer.Request.{Request}
use Rattle.smpp_session.specs.declared.answer.Request.TheVariants.{Submit as SubmitRequest, Query as QueryRequest, Cancel as CancelRequest}
use Rattle.smpp_session.specs.declared.conversation.SessionState.{SessionState}
use Rattle.smpp_session.specs.declared.conversation.SessionState.TheVariants.{Opened, BoundTx, BoundRx, BoundTrx, Unbinding, Finishing, Broken, Closed}
use Rattle.smpp_session.specs.Bindings.{bound_after, bound_behind, is_bind_lost, is_bound, is_deaf}
use Rattle.smpp_session.specs.Sessions.{SessionView, after_close, fed}
use Rattle.smpp_session.proofs.Cuts.{feed_joins}
use Rattle.smpp_session.proofs.Owing.{IsFed, deaf_gives_none, fed_is, none_buffered, with_none}
use Rattle.smsc_loop.specs.declared.note.Note.TheVariants.{BindRefused as BindRefusedNote}
use Rattle.smsc_endpoint.specs.BindName.{shown_name}
use Rattle.smsc_endpoint.specs.EsmeView.{EsmeView}
use Rattle.smsc_endpoint.specs.EsmeCalls.{acted, acted_all, acted_next, and_more, bound_wrongly, closed_where, counting_received, header_in, is_wrong, noting}
use Rattle.smsc_endpoint.specs.EsmeCalls.{passed_with, receipt_answered, taken, taken_in, unbound_where, with_session, wrong_where}
use Rattle.smsc_endpoint.specs.SentReceipts.{found_under}
use Rattle.smsc_endpoint.proofs.EsmeActions.{all_stay}

-- ---- what an action does to the session: nothing, or it closes it

pub record Acts (e : EsmeView) (more : EsmeView → EsmeView) : Type 0 where
  pub closes : Bool
  pub with : (s : SessionView) → more (with_session s e) ≡ with_session (closed_where closes s) (more e)
  pub zero : closes ≡ true → (more e).wrong_binds ≡ 0

passed_session : (header : Option Header) (request : Request) (pdu : List ℕ) (s : SessionView) (e : EsmeView)
    → passed_with header request pdu (with_session s e) ≡ with_session s (passed_with header request pdu e)
passed_session None request pdu s e = refl
passed_session (Some header) request pdu s e = refl

receipt_session : (found : Option (ℕ × ℕ)) (is_accepted : Bool) (s : SessionView) (e : EsmeView)
    → receipt_answered found is_accepted (with_session s e) ≡ with_session s (receipt_answered found is_accepted e)
receipt_session None is_accepted s e = refl
receipt_session (Some found) is_accepted s e = refl

wrongly_acts : (e : EsmeView) → Acts e bound_wrongly
wrongly_acts e = record { closes = eqb (e.wrong_binds - 1) 0; with = λ s. refl; zero = λ t. eqb-true (e.wrong_binds - 1) 0 t }

wrong_acts : (b : Bool) (e : EsmeView) → Acts e (wrong_where b)
wrong_acts true e = wrongly_acts e
wrong_acts false e = record { closes = false; with = λ s. refl; zero = λ (t : false ≡ true). absurd cc }

one_acts : (action : Action) (e : EsmeView) → Acts e (acted action)
one_acts (Send octets) e = record { closes = false; with = λ s. refl; zero = λ (t : false ≡ true). absurd cc }
one_acts (Bound place kind) e = record { closes = false; with = λ s. refl; zero = λ (t : false ≡ true). absurd cc }
one_acts (Submit pdu priority) e = record { closes = false; with = λ s. passed_session (header_in pdu) SubmitRequest pdu s e; zero = λ (t : false ≡ true). absurd cc }
one_acts (Query pdu) e = record { closes = false; with = λ s. passed_session (header_in pdu) QueryRequest pdu s e; zero = λ (t : false ≡ true). absurd cc }
one_acts (Cancel pdu) e = record { closes = false; with = λ s. passed_session (header_in pdu) CancelRequest pdu s e; zero = λ (t : false ≡ true). absurd cc }
one_acts (DeliverAnswered number is_accepted) e =
    record { closes = false; with = λ s. receipt_session (found_under number e.receipts) is_accepted s e; zero = λ (t : false ≡ true). absurd cc }
one_acts (BindRefused status name) e =
    let a = wrong_acts (is_wrong status) (noting (BindRefusedNote (status_number status) (shown_name name)) e) in
    record { closes = a.closes; with = λ s. a.with s; zero = a.zero }
one_acts Unbound e = record { closes = false; with = λ s. refl; zero = λ (t : false ≡ true). absurd cc }

next_by : (b : Bool) (action : Action) (e : EsmeView) → eqb e.wrong_binds 0 ≡ b → Acts e (λ d. cond (eqb d.wrong_binds 0) d (acted action d))
next_by true action e t = record {
  closes = false;
  with = λ s. ap (λ (b : Bool). cond b (with_session s e) (acted action (with_session s e))) t ∙ sym (ap (λ (b : Bool). with_session s (cond b e (acted action e))) t);
  zero = λ (t : false ≡ true). absurd cc;
}
next_by false action e t =
    let a = one_acts action e in record {
      closes = a.closes;
      with = λ s. ap (λ (b : Bool). cond b (with_session s e) (acted action (with_session s e))) t
          ∙ (a.with s ∙ sym (ap (λ (b : Bool). with_session (closed_where a.closes s) (cond b e (acted action e))) t));
      zero = λ c. ap (λ (b : Bool). (cond b e (acted action e)).wrong_binds) t ∙ a.zero c;
    }

closed_twice : (b c : Bool) (s : SessionView) → closed_where b (closed_where c s) ≡ closed_where (cond c true b) s
closed_twice true true s = refl
closed_twice true false s = refl
closed_twice false true s = refl
closed_twice false false s = refl

zero_behind : (one rest : Bool) (actions : List Action) (e : EsmeView) → (one ≡ true → e.wrong_binds ≡ 0) → (rest ≡ true → (acted_all e actions).wrong_binds ≡ 0)
    → cond one true rest ≡ true → (acted_all e actions).wrong_binds ≡ 0
zero_behind true rest actions e first behind t = ap (λ (d : EsmeView). d.wrong_binds) (all_stay actions e (first refl)) ∙ first refl
zero_behind false rest actions e first behind t = behind t

all_act : (actions : List Action) (e : EsmeView) → Acts e (λ d. acted_all d actions)
all_act [] e = record { closes = false; with = λ s. refl; zero = λ (t : false ≡ true). absurd cc }
all_act (action ∷ actions) e =
    let a = next_by (eqb e.wrong_binds 0) action e refl in
    let r = all_act actions (acted_next e action) in record {
      closes = cond a.closes true r.closes;
      with = λ s. ap (λ (d : EsmeView). acted_all d actions) (a.with s)
          ∙ (r.with (closed_where a.closes s) ∙ ap (λ (v : SessionView). with_session v (acted_all (acted_next e action) actions)) (closed_twice r.closes a.closes s));
      zero = λ t. zero_behind a.closes r.closes actions (acted_next e action) a.zero r.zero t;
    }

-- ---- counts of octets change nothing else

passed_count : (header : Option Header) (request : Request) (pdu : List ℕ) (n : ℕ) (e : EsmeView)
    → passed_with header request pdu (counting_received n e) ≡ counting_received n (passed_with header request pdu e)
passed_count None request pdu n e = refl
passed_count (Some header) request pdu n e = refl

receipt_count : (found : Option (ℕ × ℕ)) (is_accepted : Bool) (n : ℕ) (e : EsmeView)
    → receipt_answered found is_accepted (counting_received n e) ≡ counting_received n (receipt_answered found is_accepted e)
receipt_count None is_accepted n e = refl
receipt_count (Some found) is_accepted n e = refl

wrong_count : (b : Bool) (n : ℕ) (e : EsmeView) → wrong_where b (counting_received n e) ≡ counting_received n (wrong_where b e)
wrong_count true n e = refl
wrong_count false n e = refl

one_count : (action : Action) (n : ℕ) (e : EsmeView) → acted action (counting_received n e) ≡ counting_received n (acted action e)
one_count (Send octets) n e = refl
one_count (Bound place kind) n e = refl
one_count (Submit pdu priority) n e = passed_count (header_in pdu) SubmitRequest pdu n e
one_count (Query pdu) n e = passed_count (header_in pdu) QueryRequest pdu n e
one_count (Cancel pdu) n e = passed_count (header_in pdu) CancelRequest pdu n e
one_count (DeliverAnswered number is_accepted) n e = receipt_count (found_under number e.receipts) is_accepted n e
one_count (BindRefused status name) n e = wrong_count (is_wrong status) n (noting (BindRefusedNote (status_number status) (shown_name name)) e)
one_count Unbound n e = refl

count_if : (b : Bool) (action : Action) (n : ℕ) (e : EsmeView)
    → cond b (counting_received n e) (acted action (counting_received n e)) ≡ counting_received n (cond b e (acted action e))
count_if true action n e = refl
count_if false action n e = one_count action n e

next_count : (action : Action) (n : ℕ) (e : EsmeView) → acted_next (counting_received n e) action ≡ counting_received n (acted_next e action)
next_count action n e = count_if (eqb e.wrong_binds 0) action n e

all_count : (actions : List Action) (n : ℕ) (e : EsmeView) → acted_all (counting_received n e) actions ≡ counting_received n (acted_all e actions)
all_count [] n e = refl
all_count (action ∷ actions) n e =
    ap (λ (d : EsmeView). acted_all d actions) (next_count action n e) ∙ all_count actions n (acted_next e action)

lost_count : (b : Bool) (n : ℕ) (e : EsmeView) → unbound_where b (counting_received n e) ≡ counting_received n (unbound_where b e)
lost_count true n e = next_count Unbound n e
lost_count false n e = refl

sums : (x y r : ℕ) → and_more (x + y) r ≡ and_more y (and_more x r)
sums x y r = omega arith

counted_twice : (xs ys : List ℕ) (e : EsmeView) → counting_received (length (xs ++ ys)) e ≡ counting_received (length ys) (counting_received (length xs) e)
counted_twice xs ys e =
    ap (λ (n : ℕ). counting_received n e) (length-append xs ys)
    ∙ ap (λ (n : ℕ). record e { counts = record e.counts { received = n } }) (sums (length xs) (length ys) e.counts.received)

-- ---- lists of actions

all_append : (xs ys : List Action) (e : EsmeView) → acted_all e (xs ++ ys) ≡ acted_all (acted_all e xs) ys
all_append [] ys e = refl
all_append (x ∷ xs) ys e = all_append xs ys (acted_next e x)

behind_append : (b : Bool) (xs ys : List Action) → bound_behind b (xs ++ ys) ≡ bound_behind (bound_behind b xs) ys
behind_append b [] ys = refl
behind_append b (x ∷ xs) ys = behind_append (bound_after b x) xs ys

-- ---- a bind that is lost

lost_stays : (b : Bool) (e : EsmeView) → e.wrong_binds ≡ 0 → unbound_where b e ≡ e
lost_stays true e z = ap (λ (n : ℕ). cond (eqb n 0) e (acted Unbound e)) z
lost_stays false e z = refl

deaf_unbound : (state : SessionState) → is_deaf state ≡ true → is_bound state ≡ false
deaf_unbound Opened e = absurd cc
deaf_unbound BoundTx e = absurd cc
deaf_unbound BoundRx e = absurd cc
deaf_unbound BoundTrx e = absurd cc
deaf_unbound Unbinding e = absurd cc
deaf_unbound Finishing e = absurd cc
deaf_unbound Broken e = refl
deaf_unbound Closed e = refl

-- what is lost in both is lost in the second, where it is not lost in the first
second_lost : (before : SessionState) (m t : SessionView) (xs ys : List Action) → (is_deaf m.conversation.state ≡ true) ⊎ (is_bound m.conversation.state ≡ bound_behind (is_bound before) xs)
    → is_bind_lost before xs m.conversation.state ≡ false
    → is_bind_lost before (xs ++ ys) t.conversation.state ≡ is_bind_lost m.conversation.state ys t.conversation.state
second_lost before m t xs ys h e =
    ap (λ (b : Bool). is_deaf t.conversation.state && b) (behind_append (is_bound before) xs ys ∙ ap (λ (b : Bool). bound_behind b ys) (same h)) where
      same : (is_deaf m.conversation.state ≡ true) ⊎ (is_bound m.conversation.state ≡ bound_behind (is_bound before) xs) → bound_behind (is_bound before) xs ≡ is_bound m.conversation.state
      same (inl d) =
          let none : bound_behind (is_bound before) xs ≡ false = sym (ap (λ (b : Bool). b && bound_behind (is_bound before) xs) d) ∙ e in
          none ∙ sym (deaf_unbound m.conversation.state d)
      same (inr is) = sym is

both_true : (a b : Bool) → a && b ≡ true → a ≡ true
both_true true b e = refl
both_true false b e = absurd cc

closed_same : (s t : SessionView) → t.accounts ≡ s.accounts → t.conversation.next_number ≡ s.conversation.next_number → t.conversation.full ≡ s.conversation.full
    → after_close t ≡ after_close s
closed_same s t accounts number full = rw (accounts, number, full) refl

-- ---- both pieces

joined : (e : EsmeView) (ys : List ℕ) (f : SessionView × List Action) → IsFed e.session f → (is_deaf f.0.conversation.state ≡ true → f.0.buffered ≡ [])
    → (let g = fed f.0 ys in taken_in (g.0, f.1 ++ g.1) (counting_received (length ys) e) ≡ taken ys (taken_in f e))
joined e ys f h empty = by_closes a.closes refl where
  g : SessionView × List Action
  g = fed f.0 ys

  n : ℕ
  n = length ys

  a : Acts e (λ d. acted_all d f.1)
  a = all_act f.1 e

  d : EsmeView
  d = acted_all e f.1

  lost : Bool
  lost = is_bind_lost e.session.conversation.state f.1 f.0.conversation.state

  both_lost : Bool
  both_lost = is_bind_lost e.session.conversation.state (f.1 ++ g.1) g.0.conversation.state

  -- the first actions, in the session that both pieces lead to
  first : acted_all (with_session g.0 (counting_received n e)) f.1 ≡ counting_received n (with_session (closed_where a.closes g.0) d)
  first = all_count f.1 n (with_session g.0 e) ∙ ap (counting_received n) (a.with g.0)

  whole : taken_in (g.0, f.1 ++ g.1) (counting_received n e) ≡ unbound_where both_lost (acted_all (counting_received n (with_session (closed_where a.closes g.0) d)) g.1)
  whole =
      ap (unbound_where both_lost) (all_append f.1 g.1 (with_session g.0 (counting_received n e)) ∙ ap (λ (v : EsmeView). acted_all v g.1) first)

  by_lost : (b : Bool) → a.closes ≡ false → lost ≡ b → taken_in (g.0, f.1 ++ g.1) (counting_received n e) ≡ taken ys (taken_in f e)
  by_lost true k l =
      let deaf : is_deaf f.0.conversation.state ≡ true = both_true (is_deaf f.0.conversation.state) _ l in
      let none : with_none f.0 ≡ f.0 = ap (λ (os : List ℕ). with_buffered os) (sym (empty deaf)) in
      let gives : g ≡ session_pair f.0 = deaf_gives_none f.0 ys deaf ∙ ap session_pair none in
      let here : taken_in f e ≡ acted_next (with_session f.0 d) Unbound =
      ap (λ (b : Bool). unbound_where b (acted_all (with_session f.0 e) f.1)) l
      ∙ (ap (λ (v : EsmeView). acted_next v Unbound) (a.with f.0) ∙ ap (λ (b : Bool). acted_next (with_session (closed_where b f.0) d) Unbound) k) in
      let left : taken_in (g.0, f.1 ++ g.1) (counting_received n e) ≡ counting_received n (acted_next (with_session f.0 d) Unbound) =
      ap (λ (q : SessionView × List Action). taken_in (q.0, f.1 ++ q.1) (counting_received n e)) gives
      ∙ (ap (λ (acts : List Action). taken_in (f.0, acts) (counting_received n e)) (append-nil f.1)
      ∙ (ap (λ (b : Bool). unbound_where b (acted_all (with_session f.0 (counting_received n e)) f.1)) l
      ∙ (ap (λ (v : EsmeView). acted_next v Unbound) (all_count f.1 n (with_session f.0 e) ∙ ap (counting_received n) (a.with f.0 ∙ ap (λ (b : Bool). with_session (closed_where b f.0) d) k))
      ∙ next_count Unbound n (with_session f.0 d)))) in
      left ∙ (sym (again (eqb d.wrong_binds 0) deaf gives) ∙ sym (ap (taken ys) here)) where
        with_buffered : List ℕ → SessionView
        with_buffered os = record { accounts = f.0.accounts; conversation = f.0.conversation; buffered = os }

        session_pair : SessionView → SessionView × List Action
        session_pair s = (s, [])

        -- the second piece gives nothing
        quiet : (v : EsmeView) → v.session ≡ f.0 → is_deaf f.0.conversation.state ≡ true → g ≡ session_pair f.0 → taken ys v ≡ counting_received n v
        quiet v is deaf gives =
            ap (λ (s : SessionView). taken_in (fed s ys) (counting_received n v)) is
            ∙ (ap (λ (q : SessionView × List Action). taken_in q (counting_received n v)) gives
            ∙ (ap (λ (b : Bool). unbound_where b (with_session f.0 (counting_received n v)))
            (ap (λ (s : SessionView). is_bind_lost s.conversation.state [] f.0.conversation.state) is
            ∙ (ap (λ (b : Bool). is_deaf f.0.conversation.state && b) (deaf_unbound f.0.conversation.state deaf) ∙ and_false (is_deaf f.0.conversation.state)))
            ∙ ap (λ (s : SessionView). with_session s (counting_received n v)) (sym is)))

        again : (b : Bool) → is_deaf f.0.conversation.state ≡ true → g ≡ session_pair f.0
            → taken ys (cond b (with_session f.0 d) (acted Unbound (with_session f.0 d))) ≡ counting_received n (cond b (with_session f.0 d) (acted Unbound (with_session f.0 d)))
        again true deaf gives = quiet (with_session f.0 d) refl deaf gives
        again false deaf gives = quiet (acted Unbound (with_session f.0 d)) refl deaf gives
  by_lost false k l =
      let here : taken_in f e ≡ with_session f.0 d =
      ap (λ (b : Bool). unbound_where b (acted_all (with_session f.0 e) f.1)) l ∙ (a.with f.0 ∙ ap (λ (b : Bool). with_session (closed_where b f.0) d) k) in
      whole
      ∙ (ap (λ (b : Bool). unbound_where both_lost (acted_all (counting_received n (with_session (closed_where b g.0) d)) g.1)) k
      ∙ (ap (λ (b : Bool). unbound_where b (acted_all (counting_received n (with_session g.0 d)) g.1)) (second_lost e.session.conversation.state f.0 g.0 f.1 g.1 h.bound l)
      ∙ sym (ap (taken ys) here)))

  by_closes : (b : Bool) → a.closes ≡ b → taken_in (g.0, f.1 ++ g.1) (counting_received n e) ≡ taken ys (taken_in f e)
  by_closes true k =
      let zero : d.wrong_binds ≡ 0 = a.zero k in
      let m = fed_is f.0 ys in
      let none = deaf_gives_none (after_close f.0) ys refl in
      let here : taken_in f e ≡ with_session (after_close f.0) d =
      ap (unbound_where lost) (a.with f.0 ∙ ap (λ (b : Bool). with_session (closed_where b f.0) d) k) ∙ lost_stays lost (with_session (after_close f.0) d) zero in
      let after = with_session (after_close g.0) d in
      whole
      ∙ (ap (λ (b : Bool). unbound_where both_lost (acted_all (counting_received n (with_session (closed_where b g.0) d)) g.1)) k
      ∙ (ap (unbound_where both_lost) (all_stay g.1 (counting_received n after) zero)
      ∙ (lost_stays both_lost (counting_received n after) zero
      ∙ (ap (λ (s : SessionView). counting_received n (with_session s d)) (closed_same f.0 g.0 m.accounts m.number m.full)
      ∙ (sym (ap (λ (q : SessionView × List Action). taken_in q (counting_received n (with_session (after_close f.0) d))) none)
      ∙ sym (ap (taken ys) here))))))
  by_closes false k = by_lost lost k refl

pub pieces_join : (e : EsmeView) (xs ys : List ℕ) → taken (xs ++ ys) e ≡ taken ys (taken xs e)
pieces_join e xs ys =
    let f = fed e.session xs in
    ap (λ (q : SessionView × List Action). taken_in q (counting_received (length (xs ++ ys)) e)) (feed_joins e.session xs ys)
    ∙ (ap (taken_in ((fed f.0 ys).0, f.1 ++ (fed f.0 ys).1)) (counted_twice xs ys e)
    ∙ joined (counting_received (length xs) e) ys f (fed_is e.session xs) (none_buffered e.session xs))
