-- How the parts of a line's judgement make the whole.
use Rattle.std.proofs.Common.{◌≡◌, ℕ, Bool, true, false, cond, eqb, List, [], length, get_or, drop, Some, None, Ok, Err, Option, Result, sym, refl, ap, ◌∙◌, subst, arith}
use Rattle.text.specs.declared.fault.Fault.{Fault}
use Rattle.text.specs.Lines.{line_of}
use Rattle.text.specs.Names.{is_name}
use Rattle.text.specs.Split.{split}
use Rattle.kinds.specs.Fields.{admitted}
use Rattle.text.specs.Following.{given, then}
use Rattle.definitions.specs.declared.words.Word.{Word}
use Rattle.definitions.specs.declared.words.Word.TheVariants.{Chronicle as Opens, Var, Bound, End}
use Rattle.definitions.specs.Chronicles.{Chronicle, Said}
use Rattle.definitions.specs.Drafts.{Admits, Agrees}
use Rattle.definitions.specs.Lines.{word_at, fields_of, small, valued, worded, item_of}
use Rattle.definitions.specs.Reading.{Sound, accepted, judged}

pub given_ok : {A B : Type 0} (o : Option A) (f : Fault) (next : A → Result B Fault) (y : B) → given o f next ≡ Ok y → (x : A) × (o ≡ Some x) × (next x ≡ Ok y)
given_ok None f next y e = let z : ◌≡◌ {A = ℕ} 0 1 = cc in absurd (omega arith)
given_ok (Some x) f next y e = (x, refl, e)

pub cond_ok : {B : Type 0} (b : Bool) (r : Result B Fault) (f : Fault) (y : B) → cond b r (Err f) ≡ Ok y → (b ≡ true) × (r ≡ Ok y)
cond_ok true r f y e = (refl, e)
cond_ok false r f y e = let z : ◌≡◌ {A = ℕ} 0 1 = cc in absurd (omega arith)

pub same_ok : {B : Type 0} {x y : B} → ◌≡◌ {A = Result B Fault} (Ok x) (Ok y) → x ≡ y
same_ok e = cc

module _ {G : Type 0} (fields : ℕ) (means : List (List ℕ) → Option G) (bound : G → Bool) where
  admitted_bound : (o : Option G) (c : G) → admitted bound o ≡ Some c → bound c ≡ true
  admitted_bound None c e = let z : ◌≡◌ {A = ℕ} 0 1 = cc in absurd (omega arith)
  admitted_bound (Some x) c e = go (bound x) refl e
    where
      go : (b : Bool) → bound x ≡ b → cond b (Some x) None ≡ Some c → bound c ≡ true
      go true h e = subst (λ y. bound y ≡ true) (let s : x ≡ c = cc in s) h
      go false h e = let z : ◌≡◌ {A = ℕ} 0 1 = cc in absurd (omega arith)

  valued-admits : (n : ℕ) (w : Word) (fs : List (List ℕ)) (said : Said G) → valued fields means bound n w fs ≡ Ok said → Admits bound said
  valued-admits n Opens fs said e = let s = given_ok (small (get_or fs 1 [])) _ _ said e in subst (Admits bound) (same_ok s.2) tt
  valued-admits n Var fs said e = subst (Admits bound) (same_ok (cond_ok (is_name (get_or fs 1 [])) _ _ said e).1) tt
  valued-admits n Bound fs said e =
      let i = given_ok (small (get_or fs 1 [])) _ _ said e in
      let j = given_ok (small (get_or fs 2 [])) _ _ said i.2 in
      let c = given_ok (admitted bound (means (drop 3 fs))) _ _ said j.2 in
      subst (Admits bound) (same_ok c.2) (admitted_bound (means (drop 3 fs)) c.0 c.1)
  valued-admits n End fs said e = subst (Admits bound) (same_ok e) tt

  pub item_admits : (n : ℕ) (fs : List (List ℕ)) (said : Said G) → item_of fields means bound n fs ≡ Ok said → Admits bound said
  item_admits n fs said e =
      let w = given_ok (word_at n (get_or fs 0 [])) _ (worded fields means bound n fs) said e in
      valued-admits n w.0 fs said (cond_ok (eqb (length fs) (fields_of fields w.0)) _ _ said w.2).1

  module _ (loaded : List Bool) (n : ℕ) (d : Chronicle G) (ps : List (List ℕ)) where
    pub judged_line : (f : Fault) → line_of n ps ≡ Err f → judged fields means bound loaded n d ps ≡ Err f
    judged_line f e = ap (λ r. then r (λ l. then (item_of fields means bound n (split 9 l)) (λ s. then (accepted loaded n d s) (λ made. Ok (record { says = s; makes = made }))))) e

    pub judged_item : (line : List ℕ) → line_of n ps ≡ Ok line → (f : Fault) → item_of fields means bound n (split 9 line) ≡ Err f → judged fields means bound loaded n d ps ≡ Err f
    judged_item line first f e =
        ap (λ r. then r (λ l. then (item_of fields means bound n (split 9 l)) (λ s. then (accepted loaded n d s) (λ made. Ok (record { says = s; makes = made }))))) first
        ∙ ap (λ r. then r (λ s. then (accepted loaded n d s) (λ made. Ok (record { says = s; makes = made })))) e

  module _ (loaded : List Bool) (n : ℕ) (d : Chronicle G) (ps : List (List ℕ)) (line : List ℕ) (first : line_of n ps ≡ Ok line) (said : Said G) (says : item_of fields means bound n (split 9 line) ≡ Ok said) where
    pub judged_is : judged fields means bound loaded n d ps ≡ then (accepted loaded n d said) (λ made. Ok (record { says = said; makes = made }))
    judged_is =
        ap (λ r. then r (λ l. then (item_of fields means bound n (split 9 l)) (λ s. then (accepted loaded n d s) (λ made. Ok (record { says = s; makes = made }))))) first
        ∙ ap (λ r. then r (λ s. then (accepted loaded n d s) (λ made. Ok (record { says = s; makes = made })))) says

    -- refused as the draft refuses what the line says
    pub judged_refused : (P : Chronicle G → Type 0) (e : Fault) → Agrees {A = Unit {0}} (accepted loaded n d said) P (Err e) → judged fields means bound loaded n d ps ≡ Err e
    judged_refused P e agrees = judged_is ∙ go (accepted loaded n d said) agrees
      where
        go : (a : Result (Chronicle G) Fault) → Agrees {A = Unit {0}} a P (Err e) → then {B = Sound G} a (λ made. Ok (record { says = said; makes = made })) ≡ Err e
        go (Ok made) h = absurd h
        go (Err f) h = ap Err (sym h)

    pub judged_accepted : (P : Chronicle G → Type 0) → Agrees {A = Unit {0}} (accepted loaded n d said) P (Ok tt) →
        (made : Chronicle G) × (judged fields means bound loaded n d ps ≡ Ok (record { says = said; makes = made })) × P made
    judged_accepted P agrees = go (accepted loaded n d said) judged_is agrees
      where
        go : (a : Result (Chronicle G) Fault) → judged fields means bound loaded n d ps ≡ then {B = Sound G} a (λ made. Ok (record { says = said; makes = made })) → Agrees {A = Unit {0}} a P (Ok tt) →
            (made : Chronicle G) × (judged fields means bound loaded n d ps ≡ Ok (record { says = said; makes = made })) × P made
        go (Ok made) e h = (made, e, h)
        go (Err f) e h = absurd h
