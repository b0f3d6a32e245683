-- A definition in words, above its reading line by line: of which lines it is made, and which line is the first at fault.
use Rattle.std.specs.Prelude.{◌≡◌, ℕ, ◌+◌, ◌<◌, ◌≤◌, Bool, true, false, ◌↔◌, List, [], ◌∷◌, ◌++◌, length, Some, Ok, Err, codes, Option, ◌≢◌}
use Rattle.text.specs.declared.fault.Fault.{Fault}
use Rattle.text.specs.Names.{is_name}
use Rattle.text.specs.Split.{split}
use Rattle.definitions.specs.Chronicles.{Limit, Chronicle, Said}
use Rattle.definitions.specs.Chronicles.Said.{opening, variable, limit, closing}
use Rattle.definitions.specs.Lines.{small, limit_of}
use Rattle.definitions.specs.Reading.{is_loaded, is_closing, blank, judged, Reading, reading_of}

-- what fields say as line n: only the first line opens a definition
pub data Spells {G : Type 0} (means : List (List ℕ) → Option G) (bound : G → Bool) (n : ℕ) : List (List ℕ) → Said G → Type 0 where
  chronicle_line : {f : List ℕ} {s : ℕ} → n ≡ 1 → small f ≡ Some s → Spells means bound n (codes "chronicle" ∷ f ∷ []) (opening s)
  var_line : {f : List ℕ} → (n ≢ 1) → is_name f ≡ true → Spells means bound n (codes "var" ∷ f ∷ []) (variable f)
  bound_line : {f g : List ℕ} {cs : List (List ℕ)} {i j : ℕ} {c : G} → (n ≢ 1) → small f ≡ Some i → small g ≡ Some j → means cs ≡ Some c → bound c ≡ true →
      Spells means bound n (codes "bound" ∷ f ∷ g ∷ cs) (limit (limit_of i j c))
  end_line : (n ≢ 1) → Spells means bound n (codes "end" ∷ []) closing

-- what may follow the chronicle above it, and what it makes of it
pub data Follows {G : Type 0} (loaded : List Bool) (d : Chronicle G) : Said G → Chronicle G → Type 0 where
  opens : {s : ℕ} → is_loaded loaded s ≡ false → Follows loaded d (opening s) (record { slot = s; types = d.types; limits = d.limits })
  names : {name : List ℕ} → length d.types < 8 → Follows loaded d (variable name) (record { slot = d.slot; types = d.types ++ (name ∷ []); limits = d.limits })
  bounds : {l : Limit G} → length d.limits < 64 → l.from < length d.types → l.to < length d.types → (l.from ≢ l.to) →
      Follows loaded d (limit l) (record { slot = d.slot; types = d.types; limits = d.limits ++ (l ∷ []) })
  ends : 0 < length d.types → Follows loaded d closing d

module _ {G : Type 0} (means : List (List ℕ) → Option G) (bound : G → Bool) (loaded : List Bool) where
  -- line n is sound after the chronicle above it: it has at most 80 bytes, says something, and may follow
  pub record SoundLine (n : ℕ) (d : Chronicle G) (line : List ℕ) (said : Said G) (made : Chronicle G) : Type 0 where
    pub short : length line ≤ 80
    pub spells : Spells means bound n (split 9 line) said
    pub follows : Follows loaded d said made

-- from line n and byte `used` on, lines that end with a line feed make a definition
pub data MadeOf {G : Type 0} (means : List (List ℕ) → Option G) (bound : G → Bool) (loaded : List Bool) : ℕ → ℕ → Chronicle G → List (List ℕ) → Reading G → Type 0 where
  last : {n used : ℕ} {d made : Chronicle G} {line next : List ℕ} {rest : List (List ℕ)} → SoundLine means bound loaded n d line closing made →
      MadeOf means bound loaded n used d (line ∷ next ∷ rest) (record { chronicle = made; lines = n; used = used + length line + 1 })
  more : {n used : ℕ} {d made : Chronicle G} {said : Said G} {line next : List ℕ} {rest : List (List ℕ)} {r : Reading G} → SoundLine means bound loaded n d line said made → is_closing said ≡ false →
      MadeOf means bound loaded (n + 1) (used + length line + 1) made (next ∷ rest) r → MadeOf means bound loaded n used d (line ∷ next ∷ rest) r

-- from line n on, the first line that is not sound has the fault f, by the order of a line's tests
pub data FirstFault {G : Type 0} (fields : ℕ) (means : List (List ℕ) → Option G) (bound : G → Bool) (loaded : List Bool) : ℕ → Chronicle G → List (List ℕ) → Fault → Type 0 where
  here : {n : ℕ} {d : Chronicle G} {ps : List (List ℕ)} {f : Fault} → judged fields means bound loaded n d ps ≡ Err f → FirstFault fields means bound loaded n d ps f
  later : {n : ℕ} {d made : Chronicle G} {said : Said G} {line next : List ℕ} {rest : List (List ℕ)} {f : Fault} → SoundLine means bound loaded n d line said made → is_closing said ≡ false →
      FirstFault fields means bound loaded (n + 1) made (next ∷ rest) f → FirstFault fields means bound loaded n d (line ∷ next ∷ rest) f

-- a text is read as a definition exactly if it is made of such lines, and else its fault is that of the first line at fault
pub record ReadAsMade {G : Type 0} (fields : ℕ) (means : List (List ℕ) → Option G) (bound : G → Bool) (loaded : List Bool) (text : List ℕ) : Type 0 where
  pub made : (r : Reading G) → (reading_of fields means bound loaded text ≡ Ok r) ↔ MadeOf means bound loaded 1 0 blank (split 10 text) r
  pub faulty : (f : Fault) → (reading_of fields means bound loaded text ≡ Err f) ↔ FirstFault fields means bound loaded 1 blank (split 10 text) f
