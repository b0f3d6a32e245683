-- Head, stamp and line feed in a buffer.
use Rattle.std.proofs.Common.{◌≡◌, ℕ, ◌+◌, ◌≤◌, List, [], ◌∷◌, ◌++◌, length, take, drop, set, Some, sym, ap, ◌∙◌, arith}
use Rattle.std.proofs.lemmas.List.{append_assoc, length-append, length-take-le}
use Rattle.text.specs.Writing.{place_after, pasted}
use Rattle.report.proofs.Laid.{laid, pasted_is, place_is, accepted, length_laid, laid_part, laid_behind, laid_before, set_laid}

module _ (out head stamp : List ℕ) (start : ℕ) where
  abbrev text : List ℕ
  text = head ++ (stamp ++ (10 ∷ []))

  pub text_length : length text ≡ length head + (length stamp + 1)
  text_length = length-append head (stamp ++ (10 ∷ [])) ∙ ap (λ n. length head + n) (length-append stamp (10 ∷ []))

  -- the stamp goes into all but the last byte, the first k
  module _ (k : ℕ) (last : k + 1 ≡ length out) (ws : List ℕ) (went : ws ≡ pasted (take k out) (start + length head) stamp) where
    part : length (take k out) ≡ k
    part = length-take-le k out (omega arith)

    module _ (end : ℕ) (some : Some end ≡ place_after (take k out) (start + length head) stamp) where
      room : (start + length head + length stamp ≤ length (take k out)) × (end ≡ start + length head + length stamp)
      room = accepted (take k out) stamp (start + length head) end some

      pub long_enough : start + length text ≤ length out
      long_enough = omega (arith, room, part, text_length)

      pub somewhere : Some (end + 1) ≡ place_after out start text
      somewhere = let e : end + 1 ≡ start + length text = omega (arith, room, text_length) in ap Some e ∙ sym (place_is out text start long_enough)

      with_stamp : ws ++ drop k out ≡ laid (start + length head) stamp out
      with_stamp =
          ap (λ xs. xs ++ drop k out) (went ∙ pasted_is (take k out) stamp (start + length head) room.0)
          ∙ laid_part out stamp (start + length head) k (omega arith) (omega (arith, room, part))

      long : length (ws ++ drop k out) ≡ length out
      long = ap length with_stamp ∙ length_laid out stamp (start + length head) (omega (arith, room, part))

      module _ (vs : List ℕ) (before : vs ≡ pasted (ws ++ drop k out) start head) where
        both : vs ≡ laid start (head ++ stamp) out
        both =
            before ∙ pasted_is (ws ++ drop k out) head start (omega (arith, room, part, long)) ∙ ap (laid start head) with_stamp
            ∙ laid_before out head stamp start (omega (arith, room, part))

        ends : end ≡ start + length (head ++ stamp)
        ends = omega (arith, room, length-append head stamp)

        pub all_there : set vs end 10 ≡ pasted out start text
        all_there =
            let inside : start + length (head ++ stamp) + 1 ≤ length out = omega (arith, room, part, length-append head stamp) in
            let same = length_laid out (head ++ stamp) start (omega arith) in
            ap (λ xs. set xs end 10) both ∙ ap (λ i. set (laid start (head ++ stamp) out) i 10) ends
            ∙ set_laid (laid start (head ++ stamp) out) (start + length (head ++ stamp)) 10 (omega arith)
            ∙ laid_behind out (head ++ stamp) (10 ∷ []) start (omega arith)
            ∙ ap (λ xs. laid start xs out) (append_assoc head stamp (10 ∷ []))
            ∙ sym (pasted_is out text start long_enough)
