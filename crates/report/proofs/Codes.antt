-- What is written is read back.
use Rattle.std.proofs.Common.{◌≡◌, ◌+◌, ◌*◌, ◌%◌, ◌^◌, ◌++◌, length, take, refl, ◌∙◌, arith, length-append, take_all}
use lib.Seq.{take-append-le}
use Rattle.std.proofs.lemmas.Bool.Decides.{nat_tests}
use Rattle.report.specs.Words.{sort, body, first, second}
use Rattle.report.specs.Coded.{kinded, of_size, of_link, of_strike, of_offset, of_offsets, of_realise, of_issue, of_recall, of_walk, ReadsBack}

pub reads_back : ReadsBack
reads_back p _ _ rest (of_size n h) =
    let a : sort (kinded 2 n) ≡ 2 = omega arith in
    let b : body (kinded 2 n) ≡ n = omega arith in
    grind (arith, nat_tests)
reads_back p _ _ rest (of_link i j m w hi hj hm hw) =
    let a : sort (kinded 3 (i * 2 ^ 14 + j)) ≡ 3 = omega arith in
    let b : sort (kinded 4 m) ≡ 4 = omega arith in
    let c : sort (kinded 5 w) ≡ 5 = omega arith in
    let d : first (kinded 3 (i * 2 ^ 14 + j)) ≡ i = omega arith in
    let e : second (kinded 3 (i * 2 ^ 14 + j)) ≡ j = omega arith in
    let f : kinded 4 m % 2 ^ 28 ≡ m % 2 ^ 28 = omega arith in
    let g : kinded 5 w % 2 ^ 28 ≡ w % 2 ^ 28 = omega arith in
    grind (arith, nat_tests)
reads_back p _ _ rest (of_strike i j hi hj) =
    let a : sort (kinded 6 (i * 2 ^ 14 + j)) ≡ 6 = omega arith in
    let d : first (kinded 6 (i * 2 ^ 14 + j)) ≡ i = omega arith in
    let e : second (kinded 6 (i * 2 ^ 14 + j)) ≡ j = omega arith in
    grind (arith, nat_tests)
reads_back p _ _ rest (of_offset i j hi hj) =
    let a : sort (kinded 7 (i * 2 ^ 14 + j)) ≡ 7 = omega arith in
    let d : first (kinded 7 (i * 2 ^ 14 + j)) ≡ i = omega arith in
    let e : second (kinded 7 (i * 2 ^ 14 + j)) ≡ j = omega arith in
    grind (arith, nat_tests)
reads_back p _ _ rest of_offsets = refl
reads_back p _ _ rest of_realise = refl
reads_back p _ _ rest of_issue = refl
reads_back p _ _ rest of_recall = refl
reads_back p _ _ rest (of_walk ws h) =
    let a : sort (kinded 14 (length ws)) ≡ 14 = omega arith in
    let b : body (kinded 14 (length ws)) ≡ length ws = omega arith in
    let l = length-append ws rest in
    let t : take (length ws) (ws ++ rest) ≡ ws = take-append-le (length ws) ws rest (omega arith) ∙ take_all (length ws) ws (omega arith) in
    grind (arith, nat_tests)
