-- What is written by one call after another.
use Rattle.std.proofs.Common.{◌≡◌, ℕ, List, ◌++◌, append_assoc, ap, ◌∙◌}

pub next : (o a b : List ℕ) {p q : List ℕ} → p ≡ o ++ a → q ≡ p ++ b → q ≡ o ++ (a ++ b)
next o a b e f = f ∙ (ap (λ l. l ++ b) e ∙ append_assoc o a b)

pub chain3 : (o a1 a2 a3 : List ℕ) {p1 p2 p3 : List ℕ} → p1 ≡ o ++ a1 → p2 ≡ p1 ++ a2 → p3 ≡ p2 ++ a3 → p3 ≡ o ++ (a1 ++ (a2 ++ a3))
chain3 o a1 a2 a3 {p1} e1 e2 e3 = next o a1 (a2 ++ a3) e1 (next p1 a2 a3 e2 e3)

pub chain4 : (o a1 a2 a3 a4 : List ℕ) {p1 p2 p3 p4 : List ℕ} → p1 ≡ o ++ a1 → p2 ≡ p1 ++ a2 → p3 ≡ p2 ++ a3 → p4 ≡ p3 ++ a4 → p4 ≡ o ++ (a1 ++ (a2 ++ (a3 ++ a4)))
chain4 o a1 a2 a3 a4 {p1} e1 e2 e3 e4 = next o a1 (a2 ++ (a3 ++ a4)) e1 (chain3 p1 a2 a3 a4 e2 e3 e4)

pub chain5 : (o a1 a2 a3 a4 a5 : List ℕ) {p1 p2 p3 p4 p5 : List ℕ} → p1 ≡ o ++ a1 → p2 ≡ p1 ++ a2 → p3 ≡ p2 ++ a3 → p4 ≡ p3 ++ a4 → p5 ≡ p4 ++ a5 → p5 ≡ o ++ (a1 ++ (a2 ++ (a3 ++ (a4 ++ a5))))
chain5 o a1 a2 a3 a4 a5 {p1} e1 e2 e3 e4 e5 = next o a1 (a2 ++ (a3 ++ (a4 ++ a5))) e1 (chain4 p1 a2 a3 a4 a5 e2 e3 e4 e5)

pub chain6 : (o a1 a2 a3 a4 a5 a6 : List ℕ) {p1 p2 p3 p4 p5 p6 : List ℕ} → p1 ≡ o ++ a1 → p2 ≡ p1 ++ a2 → p3 ≡ p2 ++ a3 → p4 ≡ p3 ++ a4 → p5 ≡ p4 ++ a5 → p6 ≡ p5 ++ a6 → p6 ≡ o ++ (a1 ++ (a2 ++ (a3 ++ (a4 ++ (a5 ++ a6)))))
chain6 o a1 a2 a3 a4 a5 a6 {p1} e1 e2 e3 e4 e5 e6 = next o a1 (a2 ++ (a3 ++ (a4 ++ (a5 ++ a6)))) e1 (chain5 p1 a2 a3 a4 a5 a6 e2 e3 e4 e5 e6)

pub chain7 : (o a1 a2 a3 a4 a5 a6 a7 : List ℕ) {p1 p2 p3 p4 p5 p6 p7 : List ℕ} → p1 ≡ o ++ a1 → p2 ≡ p1 ++ a2 → p3 ≡ p2 ++ a3 → p4 ≡ p3 ++ a4 → p5 ≡ p4 ++ a5 → p6 ≡ p5 ++ a6 → p7 ≡ p6 ++ a7 → p7 ≡ o ++ (a1 ++ (a2 ++ (a3 ++ (a4 ++ (a5 ++ (a6 ++ a7))))))
chain7 o a1 a2 a3 a4 a5 a6 a7 {p1} e1 e2 e3 e4 e5 e6 e7 = next o a1 (a2 ++ (a3 ++ (a4 ++ (a5 ++ (a6 ++ a7))))) e1 (chain6 p1 a2 a3 a4 a5 a6 a7 e2 e3 e4 e5 e6 e7)

pub chain8 : (o a1 a2 a3 a4 a5 a6 a7 a8 : List ℕ) {p1 p2 p3 p4 p5 p6 p7 p8 : List ℕ} → p1 ≡ o ++ a1 → p2 ≡ p1 ++ a2 → p3 ≡ p2 ++ a3 → p4 ≡ p3 ++ a4 → p5 ≡ p4 ++ a5 → p6 ≡ p5 ++ a6 → p7 ≡ p6 ++ a7 → p8 ≡ p7 ++ a8 → p8 ≡ o ++ (a1 ++ (a2 ++ (a3 ++ (a4 ++ (a5 ++ (a6 ++ (a7 ++ a8)))))))
chain8 o a1 a2 a3 a4 a5 a6 a7 a8 {p1} e1 e2 e3 e4 e5 e6 e7 e8 = next o a1 (a2 ++ (a3 ++ (a4 ++ (a5 ++ (a6 ++ (a7 ++ a8)))))) e1 (chain7 p1 a2 a3 a4 a5 a6 a7 a8 e2 e3 e4 e5 e6 e7 e8)

pub chain9 : (o a1 a2 a3 a4 a5 a6 a7 a8 a9 : List ℕ) {p1 p2 p3 p4 p5 p6 p7 p8 p9 : List ℕ} → p1 ≡ o ++ a1 → p2 ≡ p1 ++ a2 → p3 ≡ p2 ++ a3 → p4 ≡ p3 ++ a4 → p5 ≡ p4 ++ a5 → p6 ≡ p5 ++ a6 → p7 ≡ p6 ++ a7 → p8 ≡ p7 ++ a8 → p9 ≡ p8 ++ a9 → p9 ≡ o ++ (a1 ++ (a2 ++ (a3 ++ (a4 ++ (a5 ++ (a6 ++ (a7 ++ (a8 ++ a9))))))))
chain9 o a1 a2 a3 a4 a5 a6 a7 a8 a9 {p1} e1 e2 e3 e4 e5 e6 e7 e8 e9 = next o a1 (a2 ++ (a3 ++ (a4 ++ (a5 ++ (a6 ++ (a7 ++ (a8 ++ a9))))))) e1 (chain8 p1 a2 a3 a4 a5 a6 a7 a8 a9 e2 e3 e4 e5 e6 e7 e8 e9)

pub chain10 : (o a1 a2 a3 a4 a5 a6 a7 a8 a9 a10 : List ℕ) {p1 p2 p3 p4 p5 p6 p7 p8 p9 p10 : List ℕ} → p1 ≡ o ++ a1 → p2 ≡ p1 ++ a2 → p3 ≡ p2 ++ a3 → p4 ≡ p3 ++ a4 → p5 ≡ p4 ++ a5 → p6 ≡ p5 ++ a6 → p7 ≡ p6 ++ a7 → p8 ≡ p7 ++ a8 → p9 ≡ p8 ++ a9 → p10 ≡ p9 ++ a10 → p10 ≡ o ++ (a1 ++ (a2 ++ (a3 ++ (a4 ++ (a5 ++ (a6 ++ (a7 ++ (a8 ++ (a9 ++ a10)))))))))
chain10 o a1 a2 a3 a4 a5 a6 a7 a8 a9 a10 {p1} e1 e2 e3 e4 e5 e6 e7 e8 e9 e10 = next o a1 (a2 ++ (a3 ++ (a4 ++ (a5 ++ (a6 ++ (a7 ++ (a8 ++ (a9 ++ a10)))))))) e1 (chain9 p1 a2 a3 a4 a5 a6 a7 a8 a9 a10 e2 e3 e4 e5 e6 e7 e8 e9 e10)

pub chain11 : (o a1 a2 a3 a4 a5 a6 a7 a8 a9 a10 a11 : List ℕ) {p1 p2 p3 p4 p5 p6 p7 p8 p9 p10 p11 : List ℕ} → p1 ≡ o ++ a1 → p2 ≡ p1 ++ a2 → p3 ≡ p2 ++ a3 → p4 ≡ p3 ++ a4 → p5 ≡ p4 ++ a5 → p6 ≡ p5 ++ a6 → p7 ≡ p6 ++ a7 → p8 ≡ p7 ++ a8 → p9 ≡ p8 ++ a9 → p10 ≡ p9 ++ a10 → p11 ≡ p10 ++ a11 → p11 ≡ o ++ (a1 ++ (a2 ++ (a3 ++ (a4 ++ (a5 ++ (a6 ++ (a7 ++ (a8 ++ (a9 ++ (a10 ++ a11))))))))))
chain11 o a1 a2 a3 a4 a5 a6 a7 a8 a9 a10 a11 {p1} e1 e2 e3 e4 e5 e6 e7 e8 e9 e10 e11 = next o a1 (a2 ++ (a3 ++ (a4 ++ (a5 ++ (a6 ++ (a7 ++ (a8 ++ (a9 ++ (a10 ++ a11))))))))) e1 (chain10 p1 a2 a3 a4 a5 a6 a7 a8 a9 a10 a11 e2 e3 e4 e5 e6 e7 e8 e9 e10 e11)

pub chain12 : (o a1 a2 a3 a4 a5 a6 a7 a8 a9 a10 a11 a12 : List ℕ) {p1 p2 p3 p4 p5 p6 p7 p8 p9 p10 p11 p12 : List ℕ} → p1 ≡ o ++ a1 → p2 ≡ p1 ++ a2 → p3 ≡ p2 ++ a3 → p4 ≡ p3 ++ a4 → p5 ≡ p4 ++ a5 → p6 ≡ p5 ++ a6 → p7 ≡ p6 ++ a7 → p8 ≡ p7 ++ a8 → p9 ≡ p8 ++ a9 → p10 ≡ p9 ++ a10 → p11 ≡ p10 ++ a11 → p12 ≡ p11 ++ a12 → p12 ≡ o ++ (a1 ++ (a2 ++ (a3 ++ (a4 ++ (a5 ++ (a6 ++ (a7 ++ (a8 ++ (a9 ++ (a10 ++ (a11 ++ a12)))))))))))
chain12 o a1 a2 a3 a4 a5 a6 a7 a8 a9 a10 a11 a12 {p1} e1 e2 e3 e4 e5 e6 e7 e8 e9 e10 e11 e12 = next o a1 (a2 ++ (a3 ++ (a4 ++ (a5 ++ (a6 ++ (a7 ++ (a8 ++ (a9 ++ (a10 ++ (a11 ++ a12)))))))))) e1 (chain11 p1 a2 a3 a4 a5 a6 a7 a8 a9 a10 a11 a12 e2 e3 e4 e5 e6 e7 e8 e9 e10 e11 e12)

pub chain13 : (o a1 a2 a3 a4 a5 a6 a7 a8 a9 a10 a11 a12 a13 : List ℕ) {p1 p2 p3 p4 p5 p6 p7 p8 p9 p10 p11 p12 p13 : List ℕ} → p1 ≡ o ++ a1 → p2 ≡ p1 ++ a2 → p3 ≡ p2 ++ a3 → p4 ≡ p3 ++ a4 → p5 ≡ p4 ++ a5 → p6 ≡ p5 ++ a6 → p7 ≡ p6 ++ a7 → p8 ≡ p7 ++ a8 → p9 ≡ p8 ++ a9 → p10 ≡ p9 ++ a10 → p11 ≡ p10 ++ a11 → p12 ≡ p11 ++ a12 → p13 ≡ p12 ++ a13 → p13 ≡ o ++ (a1 ++ (a2 ++ (a3 ++ (a4 ++ (a5 ++ (a6 ++ (a7 ++ (a8 ++ (a9 ++ (a10 ++ (a11 ++ (a12 ++ a13))))))))))))
chain13 o a1 a2 a3 a4 a5 a6 a7 a8 a9 a10 a11 a12 a13 {p1} e1 e2 e3 e4 e5 e6 e7 e8 e9 e10 e11 e12 e13 = next o a1 (a2 ++ (a3 ++ (a4 ++ (a5 ++ (a6 ++ (a7 ++ (a8 ++ (a9 ++ (a10 ++ (a11 ++ (a12 ++ a13))))))))))) e1 (chain12 p1 a2 a3 a4 a5 a6 a7 a8 a9 a10 a11 a12 a13 e2 e3 e4 e5 e6 e7 e8 e9 e10 e11 e12 e13)

pub chain14 : (o a1 a2 a3 a4 a5 a6 a7 a8 a9 a10 a11 a12 a13 a14 : List ℕ) {p1 p2 p3 p4 p5 p6 p7 p8 p9 p10 p11 p12 p13 p14 : List ℕ} → p1 ≡ o ++ a1 → p2 ≡ p1 ++ a2 → p3 ≡ p2 ++ a3 → p4 ≡ p3 ++ a4 → p5 ≡ p4 ++ a5 → p6 ≡ p5 ++ a6 → p7 ≡ p6 ++ a7 → p8 ≡ p7 ++ a8 → p9 ≡ p8 ++ a9 → p10 ≡ p9 ++ a10 → p11 ≡ p10 ++ a11 → p12 ≡ p11 ++ a12 → p13 ≡ p12 ++ a13 → p14 ≡ p13 ++ a14 → p14 ≡ o ++ (a1 ++ (a2 ++ (a3 ++ (a4 ++ (a5 ++ (a6 ++ (a7 ++ (a8 ++ (a9 ++ (a10 ++ (a11 ++ (a12 ++ (a13 ++ a14)))))))))))))
chain14 o a1 a2 a3 a4 a5 a6 a7 a8 a9 a10 a11 a12 a13 a14 {p1} e1 e2 e3 e4 e5 e6 e7 e8 e9 e10 e11 e12 e13 e14 = next o a1 (a2 ++ (a3 ++ (a4 ++ (a5 ++ (a6 ++ (a7 ++ (a8 ++ (a9 ++ (a10 ++ (a11 ++ (a12 ++ (a13 ++ a14)))))))))))) e1 (chain13 p1 a2 a3 a4 a5 a6 a7 a8 a9 a10 a11 a12 a13 a14 e2 e3 e4 e5 e6 e7 e8 e9 e10 e11 e12 e13 e14)
