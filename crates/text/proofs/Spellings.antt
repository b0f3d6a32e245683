-- A name's spelling says all of it, and is text.
use Rattle.std.proofs.Common.{◌≡◌, ℕ, ◌-◌, ◌<◌, true, ◌&&◌, leb, List, [], ◌∷◌, ◌++◌, length, take, replicate, sym, ap, ◌∙◌, arith}
use Rattle.std.proofs.lemmas.List.{length-take-le, take-append-drop}
use Rattle.std.proofs.lemmas.Bool.{and_parts}
use Rattle.std.proofs.lemmas.Str.{IsUtf8-from_ascii}
use Rattle.std.proofs.lemmas.Str.Ascii.{IsAscii-nil, IsAscii-cons}
use Rattle.std.specs.Str.{IsAscii, IsUtf8}
use Rattle.std.proofs.lemmas.Bool.Decides.{nat_tests}
use Rattle.text.specs.Names.{name_byte, name_bytes, is_name}
use Rattle.text.specs.Spelled.{spelled}
use Rattle.text.specs.declared.name.Name.{Name}

-- each name is spelled as one
pub name_spelled : (n : Name) → is_name (spelled n) ≡ true
name_spelled n = n.named

-- a name's bytes are its spelling and zeros
name_whole : (n : Name) → n.bytes ≡ spelled n ++ replicate (8 - n.len) 0
name_whole n = sym (take-append-drop n.len n.bytes) ∙ ap (λ t. spelled n ++ t) n.zeros

spelled_length : (n : Name) → length (spelled n) ≡ n.len
spelled_length n = length-take-le n.len n.bytes (omega (arith, n.sized, n.fits))

-- so names of one spelling have the same bytes and length
pub same_len : (m n : Name) → spelled m ≡ spelled n → m.len ≡ n.len
same_len m n e = sym (spelled_length m) ∙ ap length e ∙ spelled_length n

pub same_bytes : (m n : Name) → spelled m ≡ spelled n → m.bytes ≡ n.bytes
same_bytes m n e = name_whole m ∙ ap (λ t. t ++ replicate (8 - m.len) 0) e ∙ ap (λ l. spelled n ++ replicate (8 - l) 0) (same_len m n e) ∙ sym (name_whole n)

pub same_spelling : (m n : Name) → m.bytes ≡ n.bytes → m.len ≡ n.len → spelled m ≡ spelled n
same_spelling m n b l = ap (λ bs. take m.len bs) b ∙ ap (λ k. take k n.bytes) l

-- each byte of a name is ASCII
ascii : (bs : List ℕ) → name_bytes bs ≡ true → IsAscii bs
ascii [] h = IsAscii-nil
ascii (c ∷ cs) h = let p = and_parts (name_byte c) (name_bytes cs) h in IsAscii-cons c cs (small p.0) (ascii cs p.1)
  where
    small : name_byte c ≡ true → c < 128
    small h = grind (arith, nat_tests)

pub spelled_utf8 : (n : Name) → IsUtf8 (spelled n)
spelled_utf8 n = IsUtf8-from_ascii (spelled n) (ascii (spelled n) (and_parts (leb 1 (length (spelled n)) && leb (length (spelled n)) 8) (name_bytes (spelled n)) n.named).1)
