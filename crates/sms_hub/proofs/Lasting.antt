-- Runs, one term longer.
use Rattle.std.proofs.Common.{◌≡◌, ℕ, List, [], ◌++◌, refl, sym, subst, append_assoc, append-nil}
use Rattle.std.specs.Prelude.{IfErr, Result, Ok, Err}
use Rattle.sms_keeper.specs.declared.keeper.End.{End}
use Rattle.sms_keeper.specs.declared.keeper.End.TheVariants.{AllClosed, Refused}
use Rattle.sms_keeper.specs.declared.keeper.Keeper.{Keeper}
use Rattle.sms_keeper.specs.declared.machine.Fate.{Fate}
use Rattle.sms_keeper.specs.declared.machine.Item.{Item}
use Rattle.sms_keeper.specs.declared.machine.Stimulus.{Stimulus}
use Rattle.sms_keeper.specs.declared.outs.Out.{Out}
use Rattle.sms_keeper.specs.Groups.{IsRefusing, IsTerm}
use Rattle.sms_hub.specs.Lasting.{Ran}
use Rattle.sms_keeper.proofs.Stretches.{leads-append, leads_none, same_self, stretch-append, stretch_none}

-- where a call failed, whatever its error says
pub if_failed : {A E : Type 0} (r : Result A E) (P : Type 0) → P → IfErr r (λ error. P)
if_failed (Ok x) P h = tt
if_failed (Err e) P h = h

module _ {J O S : Type 0} (reads : ℕ → Type 0) (gives : S → Stimulus J → Fate → List (Out O)) (after : S → Stimulus J → Fate → S) where
  -- a term after which all seats have closed
  pub ran_closed : (honest : Type 0) (before behind resumes : S → Type 0) (told tells : List (Item J O) → Type 0) (a b : Keeper J O) (end : End) → end ≡ AllClosed
      → IsTerm reads gives after honest before behind resumes told tells a b end → Ran reads gives after honest before behind told tells a b
  ran_closed honest before behind resumes told tells a b end is term =
      let t = subst (λ (e : End). IsTerm reads gives after honest before behind resumes told tells a b e) is term in
      record { items = t.items; did = t.did; led = t.led; recorded = t.recorded }

  -- a term after which the machine was opened again
  pub ran_refused : (first honest : Type 0) (before behind resumes again : S → Type 0) (told tells later : List (Item J O) → Type 0) (a b : Keeper J O) (end : End) → end ≡ Refused → (honest → first)
      → IsTerm reads gives after first before behind resumes told tells a b end → (honest → (s : S) → resumes s → again s) → ((items : List (Item J O)) → tells items → later items)
      → Ran reads gives after honest before again told later a b
  ran_refused first honest before behind resumes again told tells later a b end is was term opens keeps =
      let t = subst (λ (e : End). IsTerm reads gives after first before behind resumes told tells a b e) is term in
      record {
        items = t.items;
        did = t.did;
        led = λ now s there. let x = t.led (was now) s there in (x.0, (x.1.0, opens now x.0 x.1.1));
        recorded = λ earlier has. keeps (earlier ++ t.items) (t.recorded earlier has);
      }

  -- items that were refused once the machine could not be opened again
  pub ran_refusing : (honest : Type 0) (failed fails : S → Type 0) (told tells later : List (Item J O) → Type 0) (a b : Keeper J O) → ((items : List (Item J O)) → told items → tells items)
      → IsRefusing reads gives after honest failed fails tells later a b → Ran reads gives after honest failed fails told later a b
  ran_refusing honest failed fails told tells later a b keeps h =
      record { items = h.items; did = h.did; led = h.led; recorded = λ earlier has. h.recorded earlier (keeps earlier has) }

  -- nothing was run yet
  pub ran_none : (honest : Type 0) (before : S → Type 0) (told : List (Item J O) → Type 0) (a : Keeper J O) → Ran reads gives after honest before before told told a a
  ran_none honest before told a = record {
    items = [];
    did = stretch_none reads a a (same_self a) (λ n. refl) refl refl;
    led = λ h. leads_none gives after before;
    recorded = λ earlier has. subst told (sym (append-nil earlier)) has;
  }

  -- some items, and then some more
  pub ran_more : (first honest : Type 0) (before between behind : S → Type 0) (told tells later : List (Item J O) → Type 0) (a b c : Keeper J O) → (honest → first)
      → Ran reads gives after first before between told tells a b → Ran reads gives after honest between behind tells later b c → Ran reads gives after honest before behind told later a c
  ran_more first honest before between behind told tells later a b c so h k = record {
    items = h.items ++ k.items;
    did = stretch-append reads a h.items b k.items c h.did k.did;
    led = λ is. leads-append gives after before h.items between k.items behind (h.led (so is)) (k.led is);
    recorded = λ earlier has. subst later (append_assoc earlier h.items k.items) (k.recorded (earlier ++ h.items) (h.recorded earlier has));
  }
