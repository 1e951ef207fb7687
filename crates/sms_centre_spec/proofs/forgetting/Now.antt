-- What goes now may be forgotten: no session has one's receipt unanswered, and nothing of one is under way.
use Rattle.std.proofs.Common.{◌≡◌, ℕ, List, [], ◌∷◌, Bool, true, false, Option, Some, None, refl, sym, ◌∙◌, ap, subst, ⊎_elim, eq-eqb}
use Rattle.std.specs.Prelude.{◌⊎◌, ◌==◌, ◌&&◌, ◌||◌, not}
use Rattle.std.proofs.lemmas.Bool.{and_parts, cases_Bool, not-true, or_right}
use Rattle.sms_base.specs.Among.{Among}
use Rattle.sms_base.specs.declared.carried.Carried.{Carried}
use Rattle.sms_base.specs.declared.holder.Holder.{Holder}
use Rattle.sms_base.specs.declared.holder.Holder.TheVariants.{Part, Report, Entry, Memory}
use Rattle.sms_centre_rows.specs.declared.messages.message.MessageRow.{MessageRow}
use Rattle.sms_centre_rows.specs.messages.SplitReferences.{is_among}
use Rattle.sms_centre_rows.specs.reports.Receipts.{Session, is_unanswered}
use Rattle.sms_centre_rows.specs.declared.waiting.handset_link.HandsetLink.{HandsetLink}
use Rattle.sms_centre_spec.specs.Draft.{Core}
use Rattle.sms_centre_spec.specs.SoundCore.{IsSoundCore}
use Rattle.sms_centre_spec.specs.forgetting.Forget.{forget, is_carried, is_going_now, is_held_for, is_on_way, may_go_now}
use Rattle.sms_centre_spec.specs.forgetting.Forgetting.{may_go}
use Rattle.sms_centre_spec.specs.forgetting.Forgot.{AreAway, CanForget, Forgot, IsAway, IsAwayTag}
use Rattle.sms_centre_spec.specs.Draft.{core_of}
use Rattle.sms_centre_spec.proofs.forgetting.Begins.{begins}
use Rattle.sms_centre_spec.proofs.forgetting.Going.{going_given, going_may, gone_from, passes}
use Rattle.sms_centre_spec.proofs.forgetting.Kept.{not_both}
use Rattle.sms_centre_spec.proofs.forgetting.Removed.{forget_leaves}

unanswered_there : (id : ℕ) (s : Session) (ss : List Session) → Among s ss → is_among id s.unanswered ≡ true → is_unanswered id ss ≡ true
unanswered_there id s [] a e = absurd a
unanswered_there id s (x ∷ xs) a e = ⊎_elim
    (λ (q : s ≡ x). ap (λ (b : Bool). b || is_unanswered id xs) (ap (λ (y : Session). is_among id y.unanswered) (sym q) ∙ e))
    (λ (b : Among s xs). or_right (is_among id x.unanswered) (is_unanswered id xs) (unanswered_there id s xs b e))
    a

pub on_way_there : (id : ℕ) (l : HandsetLink) (ls : List HandsetLink) → Among l ls → is_carried id l.near_end.under_way ≡ true → is_on_way id ls ≡ true
on_way_there id l [] a e = absurd a
on_way_there id l (x ∷ xs) a e = ⊎_elim
    (λ (q : l ≡ x). ap (λ (b : Bool). b || is_on_way id xs) (ap (λ (y : HandsetLink). is_carried id y.near_end.under_way) (sym q) ∙ e))
    (λ (b : Among l xs). or_right (is_carried id x.near_end.under_way) (is_on_way id xs) (on_way_there id l xs b e))
    a

record Clear (id : ℕ) (c : Core) : Type 0 where
  answered : is_unanswered id c.sessions ≡ false
  away : is_on_way id c.links ≡ false

module _ (before from most : ℕ) (c : Core) (s : IsSoundCore c) where
  abbrev goes : ℕ → Bool
  goes = is_going_now before from most c

  clear : (id : ℕ) → goes id ≡ true → Clear id c
  clear id g =
      let f = gone_from (may_go_now before c) from most c.rows.messages id g in
      let m : MessageRow = f.row in
      let a = and_parts (may_go before c.rows m) (not (is_unanswered m.id c.sessions) && not (is_on_way m.id c.links)) f.passes in
      let b = and_parts (not (is_unanswered m.id c.sessions)) (not (is_on_way m.id c.links)) a.1 in
      record {
        answered = ap (λ (n : ℕ). is_unanswered n c.sessions) (sym f.own) ∙ not-true (is_unanswered m.id c.sessions) b.0;
        away = ap (λ (n : ℕ). is_on_way n c.links) (sym f.own) ∙ not-true (is_on_way m.id c.links) b.1;
      }

  ended : (m : MessageRow) → may_go_now before c m ≡ true → may_go before c.rows m ≡ true
  ended m t = (and_parts (may_go before c.rows m) (not (is_unanswered m.id c.sessions) && not (is_on_way m.id c.links)) t).0

  pub can_now : CanForget goes c
  can_now = record {
    may = going_may before from most c.rows (may_go_now before c) ended s.rows;
    given = going_given before from most c.rows (may_go_now before c) ended s.rows;
    answered = λ x id a e. ⊎_elim
        (λ (t : goes id ≡ true). absurd (not_both (is_unanswered id c.sessions) (unanswered_there id x c.sessions a e) (clear id t).answered))
        (λ (t : goes id ≡ false). t)
        (cases_Bool (goes id));
  }

  -- what is carried is of a message that stays
  stays : (l : HandsetLink) → Among l c.links → (id : ℕ) → is_carried id l.near_end.under_way ≡ true → goes id ≡ false
  stays l a id e = ⊎_elim
      (λ (t : goes id ≡ true). absurd (not_both (is_on_way id c.links) (on_way_there id l c.links a e) (clear id t).away))
      (λ (t : goes id ≡ false). t)
      (cases_Bool (goes id))

  tag_away : (tag : Holder) → ((id : ℕ) → is_held_for id tag ≡ true → goes id ≡ false) → IsAwayTag goes tag
  tag_away (Part n number) f = f n (eq-eqb n n refl)
  tag_away (Report n) f = f n (eq-eqb n n refl)
  tag_away (Entry n) f = tt
  tag_away (Memory n) f = tt

  way : (o : Option Carried) → ((id : ℕ) → is_carried id o ≡ true → goes id ≡ false) → IsAway goes o
  way None f = tt
  way (Some t) f = tag_away t.tag f

  pub away_now : AreAway goes c
  away_now l a = way l.near_end.under_way (stays l a)

  pub forgot_now : Forgot goes (core_of (forget before from most c)) c
  forgot_now = subst (λ (x : Core). Forgot goes x c) (sym (forget_leaves before from most c s.rows)) (begins goes c s can_now away_now)

  pub may_now : (m : MessageRow) → Among m c.rows.messages → goes m.id ≡ true → may_go_now before c m ≡ true
  may_now m a g = passes before from most c.rows (may_go_now before c) ended s.rows m a g
