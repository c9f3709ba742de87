-- What is written of nine values, one after another.
use Rattle.std.proofs.Common.{◌≡◌, ℕ, List, [], ◌++◌, append_assoc}
use Rattle.std.proofs.lemmas.List.{append-nil}

pub nine_written : (t0 t1 t2 t3 t4 t5 t6 t7 t8 t9 : List ℕ) (a1 a2 a3 a4 a5 a6 a7 a8 a9 : List ℕ)
    → t1 ≡ t0 ++ a1
    → t2 ≡ t1 ++ a2
    → t3 ≡ t2 ++ a3
    → t4 ≡ t3 ++ a4
    → t5 ≡ t4 ++ a5
    → t6 ≡ t5 ++ a6
    → t7 ≡ t6 ++ a7
    → t8 ≡ t7 ++ a8
    → t9 ≡ t8 ++ a9
    → t9 ≡ t0 ++ (a1 ++ (a2 ++ (a3 ++ (a4 ++ (a5 ++ (a6 ++ (a7 ++ (a8 ++ a9))))))))
nine_written t0 t1 t2 t3 t4 t5 t6 t7 t8 t9 a1 a2 a3 a4 a5 a6 a7 a8 a9 e1 e2 e3 e4 e5 e6 e7 e8 e9 =
    rw (e9, e8, e7, e6, e5, e4, e3, e2, e1) (simp append_assoc)

-- the same up to the end of a list
pub nine_listed : (t0 t1 t2 t3 t4 t5 t6 t7 t8 t9 : List ℕ) (a1 a2 a3 a4 a5 a6 a7 a8 a9 : List ℕ)
    → t1 ≡ t0 ++ a1
    → t2 ≡ t1 ++ a2
    → t3 ≡ t2 ++ a3
    → t4 ≡ t3 ++ a4
    → t5 ≡ t4 ++ a5
    → t6 ≡ t5 ++ a6
    → t7 ≡ t6 ++ a7
    → t8 ≡ t7 ++ a8
    → t9 ≡ t8 ++ a9
    → t9 ≡ t0 ++ (a1 ++ (a2 ++ (a3 ++ (a4 ++ (a5 ++ (a6 ++ (a7 ++ (a8 ++ (a9 ++ [])))))))))
nine_listed t0 t1 t2 t3 t4 t5 t6 t7 t8 t9 a1 a2 a3 a4 a5 a6 a7 a8 a9 e1 e2 e3 e4 e5 e6 e7 e8 e9 =
    rw (append-nil a9) (nine_written t0 t1 t2 t3 t4 t5 t6 t7 t8 t9 a1 a2 a3 a4 a5 a6 a7 a8 a9 e1 e2 e3 e4 e5 e6 e7 e8 e9)
