use Rattle.std.proofs.Common.{◌≡◌, List, ℕ, Some, ap, arith, slice_get, subst, sym, true≢false, ◌∙◌, ⊎_elim}
use Rattle.std.proofs.lemmas.Bool.{cases_eq}
use Rattle.std.proofs.lemmas.Option.{slice_get_read}
use Rattle.std.proofs.lemmas.Slice.Eq.{bytes_eq-Decides}
use Rattle.sms_rows.specs.interning.Interning.{InternedOf, IsAt, IsNowhere}
use Rattle.sms_rows.proofs.interning.Places.{nowhere}
use Rattle.sms_rows.proofs.interning.accounts.Accounts.place.Goals as goal

pub returns-then-eq-clause-some : goal.returns-then-eq-clause-some
returns-then-eq-clause-some c =
    let e : c.as_slice.result.now ≡ c.as_slice-in-loop-place.result.now = (bytes_eq-Decides c.as_slice.result.now c.as_slice-in-loop-place.result.now).0 (sym c.if-eq.ensures) in
    subst (λ (v : InternedOf (List ℕ)). IsAt c.args.name.now c.loop-place.place v.values) c.self.view_is
    (slice_get_read c.self.inside.names.items c.len-place-end.result c.loop-place.place c.index.result.now (c.len-place-end.ensures ∙ c.self.inside.names.ok.0) c.loop-place-test.true c.index.ensures
    ∙ ap (λ (x : List ℕ). Some x) (sym c.as_slice.ensures ∙ e ∙ c.as_slice-in-loop-place.ensures))

pub loop-place-preserved : goal.loop-place-preserved
loop-place-preserved c = λ p l there. ⊎_elim
    (λ (e : p ≡ c.loop-place.place).
    let read = slice_get_read c.self.inside.names.items c.len-place-end.result c.loop-place.place c.index.result.now (c.len-place-end.ensures ∙ c.self.inside.names.ok.0) c.loop-place-test.true c.index.ensures in
    let q : Some c.index.result.now ≡ Some c.args.name.now = sym read ∙ ap (λ (i : ℕ). slice_get c.self.inside.names.items i) (sym e) ∙ there in
    let named : c.index.result.now ≡ c.args.name.now = cc in
    let same : c.as_slice.result.now ≡ c.as_slice-in-loop-place.result.now = c.as_slice.ensures ∙ named ∙ sym c.as_slice-in-loop-place.ensures in
    absurd (true≢false (sym ((bytes_eq-Decides c.as_slice.result.now c.as_slice-in-loop-place.result.now).1 same) ∙ sym c.eq.ensures ∙ c.if-eq.false)))
    (λ (n : p ≡ c.loop-place.place → ⊥). c.loop-place.invariant p (omega (arith, n, l)) there)
    (cases_eq p c.loop-place.place)

pub returns-clause-none : goal.returns-clause-none
returns-clause-none c =
    subst (λ (v : InternedOf (List ℕ)). IsNowhere c.args.name.now v.values) c.self.view_is
    (nowhere c.args.name.now c.self.inside.names.items (λ p l. let e = c.len-place-end.ensures ∙ c.self.inside.names.ok.0 in let t = c.loop-place-test.false in c.loop-place.invariant p (omega (arith, l, e, t))))
