-- Values from outside: what an independent reader of the same texts, in another language, gives for them.
use Rattle.std.specs.Prelude.{◌≡◌, ℕ, ℤ, pos, negsuc, List, [], ◌∷◌, ◌++◌, map, Some, None, Result, Ok, Err, codes, refl}
use Rattle.fx_rational.specs.Rational.{Rational, over}
use Rattle.fx_rational.specs.Decimal.{decimal_value}
use Rattle.fx_model.specs.Tree.{Tree, Literal, Input, State, Temp, Negation, Sum, Difference, Product, Quotient}
use Rattle.fx_model.specs.Function as model
use Rattle.fx_model.specs.Function.{Function, free}
use Rattle.fx_lexer.specs.declared.fault.SourceFault.{SourceFault}
use Rattle.fx_lexer.specs.declared.fault.SourceKind.{SourceKind}
use Rattle.fx_lexer.specs.declared.fault.SourceKind.TheVariants as kinds
use Rattle.fx_grammar.specs.Steps.{Text, fault}
use Rattle.fx_syntax.proofs.Worked.{read}

abbrev Reading : Type 0
Reading = Result (List Function) SourceFault

-- ---- texts with their first fault

record Faulty : Type 0 where
  text : Text
  at : ℕ
  kind : SourceKind

abbrev faulty : Text → ℕ → SourceKind → Faulty
faulty text at kind = record { text = text; at = at; kind = kind }

abbrev readings : List Faulty → List Reading
readings xs = map (λ x. read x.text) xs

abbrev faults : List Faulty → List Reading
faults xs = map (λ x. Err (fault x.at x.kind)) xs

faults_1 : List Faulty
faults_1 =
    faulty (codes "def f(x:Real):Real={require(0<=x&&x<=1) x # 1}") 42 kinds.BadCharacter ∷
    faulty (codes "def f(x:Real):Real={require(0<=x&&x<=1) x + 1x}") 44 kinds.BadNumber ∷
    faulty (codes "def f(x:Real):Real={require(0<=x&&x<=1) x /* open}") 50 kinds.EndOfText ∷
    faulty (codes "def f(x:Real):Real={require(0<=x&&x<=1) 1. }") 41 kinds.Unexpected ∷
    faulty (codes "def f(x:Real):Real={require(0<=x&&x<=1) 1.5.2}") 43 kinds.Unexpected ∷
    faulty (codes "def f(x:Real):Real={require(0<=x&&x<=1) 1e}") 40 kinds.BadNumber ∷
    faulty (codes "def f(x:Real):Real={require(0<=x&&x<=1) 1e+}") 40 kinds.BadNumber ∷
    faulty (codes "def f(x:Real):Real={require(0<=x&&x<=1) x /*\n*/ - 1}") 48 kinds.Unexpected ∷
    faulty (codes "x") 0 kinds.Unexpected ∷
    faulty (codes "def") 3 kinds.EndOfText ∷
    faulty (codes "def f") 5 kinds.EndOfText ∷
    faulty (codes "def f(x:Real") 12 kinds.EndOfText ∷
    faulty (codes "def f(x:real):Real={}") 8 kinds.Unexpected ∷
    faulty (codes "object O { } def") 13 kinds.Unexpected ∷
    faulty (codes "import a.") 9 kinds.EndOfText ∷
    faulty (codes "import a.if") 9 kinds.Unsupported ∷
    faulty (codes "def f(x:Real):Real={require(0<=x&&x<=1) x }}") 43 kinds.Unexpected ∷
    faulty (codes "def f(x:Real):Real={require(0<=x&&x<=1) x)}") 41 kinds.Unexpected ∷
    faulty (codes "def f(x:Real):Real={require(0<=x&&x<=1) (x,x)}") 42 kinds.Unexpected ∷
    faulty (codes "def f(x:Real):(Real,Real)={require(0<=x&&x<=1) x}") 47 kinds.Unexpected ∷
    faulty (codes "def f(x:Real):(Real,Real)={require(0<=x&&x<=1) zz}") 47 kinds.Unexpected ∷
    faulty (codes "def f(x:Real):(Real,Real)={require(0<=x&&x<=1) (x)}") 47 kinds.WrongArity ∷
    faulty (codes "def f(x:Real):(Real,Real)={require(0<=x&&x<=1) (x,x,x)}") 47 kinds.WrongArity ∷
    faulty (codes "def f(x:Real):Real={require(0<=x&&x<=1) x +}") 43 kinds.Unexpected ∷
    faulty (codes "def f(x:Real):Real={require(0<=x&&x<=1) y}") 40 kinds.UnknownName ∷
    []

faults_1_are : readings faults_1 ≡ faults faults_1
unfolding faults_1 read
faults_1_are = refl

faults_2 : List Faulty
faults_2 =
    faulty (codes "def f(x:Real):Real={require(0<=x&&x<=1) y(1)}") 40 kinds.Unsupported ∷
    faulty (codes "def f(x:Real):Real={require(0<=x&&x<=1) x (1)}") 40 kinds.Unsupported ∷
    faulty (codes "def f(x:Real):Real={require(0<=x&&x<=1) x\n(1)}") 42 kinds.Unexpected ∷
    faulty (codes "def f(x:Real):Real={require(0<=x&&x<=1) f(x)}") 40 kinds.Unsupported ∷
    faulty (codes "def f(x:Real):Real={require(0<=x&&x<=1) val t = x (t)}") 48 kinds.Unsupported ∷
    faulty (codes "def f(x:Real):Real={require(0<=x&&x<=1) val t = t t}") 48 kinds.UnknownName ∷
    faulty (codes "def f(x:Real,x:Real):Real={") 13 kinds.NamedTwice ∷
    faulty (codes "def f(x:Real)(x:Real=1):Real={") 14 kinds.NamedTwice ∷
    faulty (codes "def f(x:Real):Real={require(0<=x&&x<=1) val x = 1 x}") 44 kinds.NamedTwice ∷
    faulty (codes "def f(x:Real):Real={require(0<=x&&x<=1) val t=1 val t=2 t}") 52 kinds.NamedTwice ∷
    faulty (codes "def f(x:Real):Real={require(0<=x&&1<=x&&x<=1) x}") 37 kinds.NamedTwice ∷
    faulty (codes "def f(x:Real):Real={require(0<=x&&x<=1&&x<=1) x}") 40 kinds.NamedTwice ∷
    faulty (codes "def f(x:Real):Real={require(0<=x&&x<=1&&x+/-1&&x+/-2) x}") 47 kinds.NamedTwice ∷
    faulty (codes "def f(x:Real):Real={require(0<=x&&x<=1) x} def f(x:Real):Real={require(0<=x&&x<=1) x}") 47
    kinds.NamedTwice ∷
    faulty (codes "def f(x:Real):Real={ x}") 6 kinds.NoRange ∷
    faulty (codes "def f(x:Real):Real={if x}") 20 kinds.Unsupported ∷
    faulty (codes "def f(x:Real):Real={ val y = x x}") 6 kinds.NoRange ∷
    faulty (codes "def f(x:Real):Real={") 6 kinds.NoRange ∷
    faulty (codes "def f(x:Real):Real={require(0<=x) x}") 6 kinds.NoRange ∷
    faulty (codes "def f(x:Real):Real={require(x<=1) x}") 6 kinds.NoRange ∷
    faulty (codes "def f(x:Real):Real={require(2<=x&&x<=1) x}") 6 kinds.EmptyRange ∷
    faulty (codes "def f(x:Real):Real={require((0<=x&&x<=1) x}") 41 kinds.Unexpected ∷
    faulty (codes "def f(x:Real):Real={require(0<=1) x}") 28 kinds.Unsupported ∷
    faulty (codes "def f(x:Real):Real={require(0<=-1) x}") 28 kinds.Unsupported ∷
    faulty (codes "def f(x:Real):Real={require(0<=-x) x}") 31 kinds.Unexpected ∷
    []

faults_2_are : readings faults_2 ≡ faults faults_2
unfolding faults_2 read
faults_2_are = refl

faults_3 : List Faulty
faults_3 =
    faulty (codes "def f(x:Real):Real={require(x<=x) x}") 28 kinds.Unsupported ∷
    faulty (codes "def f(x:Real):Real={require(x<=-x) x}") 32 kinds.Unexpected ∷
    faulty (codes "def f(x:Real):Real={require(x<=zz) x}") 28 kinds.Unsupported ∷
    faulty (codes "def f(x:Real):Real={require(zz<=x) x}") 28 kinds.UnknownName ∷
    faulty (codes "def f(x:Real):Real={require(f(x)<=1) x}") 28 kinds.UnknownName ∷
    faulty (codes "def f(x:Real):Real={require(x+/-x) x}") 32 kinds.Unexpected ∷
    faulty (codes "def f(x:Real):Real={require(1+/-2) x}") 29 kinds.Unexpected ∷
    faulty (codes "def f(x:Real):Real={require(0<=x||x<=1) x}") 32 kinds.BadCharacter ∷
    faulty (codes "def f(x:Real):Real={require(0<=zz) x}") 31 kinds.UnknownName ∷
    faulty (codes "def f(x:Real):Real={require() x}") 28 kinds.Unexpected ∷
    faulty (codes "def f(x:Real,y:Real):Real={require(0<=x&&x<=1&&2<=y&&y<=1) x}") 13 kinds.EmptyRange ∷
    faulty (codes "def f(x:Real,y:Real):Real={require(0<=y&&y<=1) x}") 6 kinds.NoRange ∷
    faulty (codes "def f(x:Real):Real={require(0<=x&&x<=1) if}") 40 kinds.Unsupported ∷
    faulty (codes "def f(x:Real):Real={require(0<=x&&x<=1) x if}") 42 kinds.Unsupported ∷
    faulty (codes "def f(x:Real):Real={require(0<=x&&x<=1) x + true}") 44 kinds.Unsupported ∷
    faulty (codes "def if") 4 kinds.Unsupported ∷
    faulty (codes "while") 0 kinds.Unsupported ∷
    faulty (codes "def f(x:Real):Real={require(0<=x&&x<=1) val new = 1 x}") 44 kinds.Unsupported ∷
    faulty (codes "def f(x:Real)(s:Real=1):Real={") 24 kinds.WrongArity ∷
    faulty (codes "def f(x:Real)(s:Real=1):(Real)={") 24 kinds.WrongArity ∷
    faulty (codes "def f(x:Real):Real={require(0<=x&&x<=1) x}ensuring((a,b)=>a+/-1)") 52 kinds.WrongArity ∷
    faulty (codes "def f(x:Real):(Real,Real)={require(0<=x&&x<=1) (x,x)}ensuring(a=>a+/-1)") 62 kinds.WrongArity ∷
    faulty (codes "def f(x:Real):(Real,Real)={require(0<=x&&x<=1) (x,x)}ensuring((a,a)=>b+/-1)") 65 kinds.NamedTwice ∷
    faulty (codes "def f(x:Real):Real={require(0<=x&&x<=1) x}ensuring(r=>r+/-1&&r+/-2)") 61 kinds.NamedTwice ∷
    faulty (codes "def f(x:Real):Real={require(0<=x&&x<=1) x}ensuring(r=>s+/-1)") 54 kinds.UnknownName ∷
    []

faults_3_are : readings faults_3 ≡ faults faults_3
unfolding faults_3 read
faults_3_are = refl

faults_4 : List Faulty
faults_4 =
    faulty (codes "def f(x:Real):Real={require(0<=x&&x<=1) x}ensuring(r=>5+/-1)") 55 kinds.Unexpected ∷
    faulty (codes "def f(x:Real):Real={require(0<=x&&x<=1) x}ensuring(r=>-r<=1)") 55 kinds.Unexpected ∷
    faulty (codes "def f(x:Real):Real={require(0<=x&&x<=1) x}ensuring(r=>r+/--1)") 58 kinds.Unexpected ∷
    faulty (codes "def f(x:Real):Real={require(0<=x&&x<=1) x}ensuring(r=>)") 54 kinds.Unexpected ∷
    faulty (codes "def f(x:Real):Real={require(0<=x&&x<=1) x}ensuring(r=>r+/-1") 59 kinds.EndOfText ∷
    faulty (codes "def f(x:Real):Real={require(0<=x&&x<=1) x;}ensuring((r)=>r+/-1)x") 63 kinds.Unexpected ∷
    faulty (codes "def f(x:Real):Real={require(0<=x&&x<=1) --x}") 41 kinds.Unexpected ∷
    faulty (codes "def f(x:Real):Real={require(0<=x&&x<=1) val t = x s}") 50 kinds.UnknownName ∷
    faulty (codes "def f(x:Real):Real={require(0<=x&&x<=1) val t = t t}") 48 kinds.UnknownName ∷
    faulty (codes "def f(x:Real):Real={require(0<=x&&x<=1) val t=x; val t=x; t}") 53 kinds.NamedTwice ∷
    faulty (codes "def f(x:Real):Real={require(0<=x&&x<=1) x;; }") 42 kinds.Unexpected ∷
    faulty (codes "def f(x:Real):Real={require(0<=x&&x<=1) x - }") 44 kinds.Unexpected ∷
    faulty (codes "def f(x:Real):Real={require(0<=x&&x<=1) (x}") 42 kinds.Unexpected ∷
    faulty (codes "def f(x:Real):Real={require(0<=x&&x<=1) x)}") 41 kinds.Unexpected ∷
    faulty (codes "def f(x:Real,):Real={") 13 kinds.Unexpected ∷
    faulty (codes "def f(x:Real y:Real):Real={") 13 kinds.Unexpected ∷
    faulty (codes "def f(x Real):Real={") 8 kinds.Unexpected ∷
    faulty (codes "def f():Real={") 6 kinds.Unexpected ∷
    faulty (codes "def f(x:Real):Real{") 18 kinds.Unexpected ∷
    faulty (codes "object O{def f(x:Real):Real={require(0<=x&&x<=1) x} import a}") 52 kinds.Unexpected ∷
    faulty (codes "import a object O{} import b") 20 kinds.Unexpected ∷
    faulty (codes "def f(x:Real):Real={require(0<=x&&x<=1) val t: Int = x; t}") 47 kinds.Unexpected ∷
    []

faults_4_are : readings faults_4 ≡ faults faults_4
unfolding faults_4 read
faults_4_are = refl

-- ---- texts with their functions

dec : ℤ → ℕ → Rational
dec a b = decimal_value (record { a = a; b = b })

input : Text → Rational → Rational → Rational → model.Input
input name lo hi err = record { name = name; lo = lo; hi = hi; err = err }

state : Text → Rational → model.State
state name start = record { name = name; start = start }

temp : Text → Tree → model.Temp
temp name tree = record { name = name; tree = tree }

-- of an output that may be wrong by so much
within : Rational → model.Demand
within err = record { err = Some err; lo = None; hi = None }

function : Text → List model.Input → List model.State → List model.Temp → List Tree → List model.Demand → Function
function name inputs states temps results demands =
    record { name = name; inputs = inputs; states = states; temps = temps; results = results; demands = demands }

-- a function f of x from 0 to 1, with one output that nothing is demanded of
of_x : List model.Temp → List Tree → Function
unfolding function input dec
of_x temps results =
    function (codes "f") (input (codes "x") (dec (pos 0) 0) (dec (pos 1) 0) (dec (pos 0) 0) ∷ []) [] temps results
    (free ∷ [])

record Lawful : Type 0 where
  text : Text
  functions : List Function

abbrev lawful : Text → List Function → Lawful
lawful text functions = record { text = text; functions = functions }

abbrev lawful_readings : List Lawful → List Reading
lawful_readings xs = map (λ x. read x.text) xs

abbrev meanings : List Lawful → List Reading
meanings xs = map (λ x. Ok x.functions) xs

sources_1 : List Lawful
unfolding over
sources_1 =
    lawful (codes "def f(x: Real): Real = {\n  require(0 <= x && x <= 1)\n  x + 0.5\n}\n")
    (of_x [] ((Sum (Input 0) (Literal (over (pos 1) 2))) ∷ []) ∷ []) ∷
    lawful (codes "def g(u: Real)(x: Real = 0.0): (Real, Real) = {\n  require(-1 <= u && u <= 1)\n" ++
    codes "  val y = 0.5 * x + 0.5 * u\n  (y, y)\n}\n")
    (function (codes "g") (input (codes "u") (dec (negsuc 0) 0) (dec (pos 1) 0) (dec (pos 0) 0) ∷ [])
    (state (codes "x") (dec (pos 0) 0) ∷ [])
    (temp (codes "y")
    (Sum (Product (Literal (over (pos 1) 2)) (State 0)) (Product (Literal (over (pos 1) 2)) (Input 0))) ∷ [])
    ((Temp 0) ∷ (Temp 0) ∷ []) (free ∷ []) ∷ []) ∷
    lawful (codes "import daisy.lang._\nimport Real._\n\nobject Doppler {\n  /* frequency shift */\n" ++
    codes "  def doppler(u: Real, v: Real, T: Real): Real = {\n" ++
    codes "    require(-100.0 <= u && u <= 100 && 20 <= v && v <= 20000 && -30 <= T && T <= 50)\n" ++
    codes "    val t1 = 331.4 + 0.6 * T // speed of sound\n    (- (t1) * v) / ((t1 + u) * (t1 + u))\n" ++
    codes "  } ensuring (res => res +/- 0.001)\n}\n")
    (function (codes "doppler") (input (codes "u") (dec (negsuc 99) 0) (dec (pos 100) 0) (dec (pos 0) 0) ∷
    input (codes "v") (dec (pos 20) 0) (dec (pos 20000) 0) (dec (pos 0) 0) ∷
    input (codes "T") (dec (negsuc 29) 0) (dec (pos 50) 0) (dec (pos 0) 0) ∷ []) []
    (temp (codes "t1") (Sum (Literal (over (pos 1657) 5)) (Product (Literal (over (pos 3) 5)) (Input 2))) ∷ [])
    ((Quotient (Product (Negation (Temp 0)) (Input 1)) (Product (Sum (Temp 0) (Input 0)) (Sum (Temp 0) (Input 0)))) ∷
    []) (within (dec (pos 1) 3) ∷ []) ∷ []) ∷
    lawful (codes "def m(x: Real): Real = { require(-1.984375 <= x && x <= 1) -x }")
    (function (codes "m") (input (codes "x") (dec (negsuc 1984374) 6) (dec (pos 1) 0) (dec (pos 0) 0) ∷ []) [] []
    ((Negation (Input 0)) ∷ []) (free ∷ []) ∷ []) ∷
    lawful (codes "def q(x: Real): Real = { require(0.002 <= x && x <= 1) 1 / (x - 0.001) }")
    (function (codes "q") (input (codes "x") (dec (pos 2) 3) (dec (pos 1) 0) (dec (pos 0) 0) ∷ []) [] []
    ((Quotient (Literal (over (pos 1) 1)) (Difference (Input 0) (Literal (over (pos 1) 1000)))) ∷ []) (free ∷ [])
    ∷ []) ∷
    lawful (codes "def f(x:Real):Real={require(0<=x&&x<=1) x /* a /* b */ c */ + 1}")
    (of_x [] ((Sum (Input 0) (Literal (over (pos 1) 1))) ∷ []) ∷ []) ∷
    lawful (codes "def f(x:Real):Real={require(0<=x&&x<=1) x // c\n + 1}")
    (of_x [] ((Sum (Input 0) (Literal (over (pos 1) 1))) ∷ []) ∷ []) ∷
    lawful (codes "def f(x:Real):Real={require(0<=x&&x<=1) 1.5e3}") (of_x [] ((Literal (over (pos 1500) 1)) ∷ []) ∷ [])
    ∷
    lawful (codes "def f(x:Real):Real={require(0<=x&&x<=1) x /**/ - 1}")
    (of_x [] ((Difference (Input 0) (Literal (over (pos 1) 1))) ∷ []) ∷ []) ∷
    lawful (codes "") [] ∷
    lawful (codes "object O { import a.b.c }") [] ∷
    lawful (codes "def f(x:Real):(Real,Real)={require(0<=x&&x<=1) (x,x)}")
    (function (codes "f") (input (codes "x") (dec (pos 0) 0) (dec (pos 1) 0) (dec (pos 0) 0) ∷ []) [] []
    ((Input 0) ∷ (Input 0) ∷ []) (free ∷ free ∷ []) ∷ []) ∷
    lawful (codes "def f(x:Real):Real={require(0<=x&&x<=1) val t = 2 (t)}")
    (of_x (temp (codes "t") (Literal (over (pos 2) 1)) ∷ []) ((Temp 0) ∷ []) ∷ []) ∷
    lawful (codes "def f(x:Real):Real={require(0<=x&&x<=1) val t = x\n(t)}")
    (of_x (temp (codes "t") (Input 0) ∷ []) ((Temp 0) ∷ []) ∷ []) ∷
    lawful (codes "def f(x:Real):Real={require(0<=x&&x<=1) val t = (x) (t)}")
    (of_x (temp (codes "t") (Input 0) ∷ []) ((Temp 0) ∷ []) ∷ []) ∷
    lawful (codes "def f(x:Real):Real={require(0<=x&&x<=1) val t = x - 1 t}")
    (of_x (temp (codes "t") (Difference (Input 0) (Literal (over (pos 1) 1))) ∷ []) ((Temp 0) ∷ []) ∷ []) ∷
    []

sources_1_are : lawful_readings sources_1 ≡ meanings sources_1
unfolding sources_1 dec input state temp within function of_x over decimal_value read
sources_1_are = refl

sources_2 : List Lawful
unfolding over
sources_2 =
    lawful (codes "def f(x:Real):Real={require(0<=x&&x<=1) val t = x\n- 1}")
    (of_x (temp (codes "t") (Input 0) ∷ []) ((Literal (over (negsuc 0) 1)) ∷ []) ∷ []) ∷
    lawful (codes "def f(x:Real):Real={require(0<=x&&x<=1) (x\n- 1)}")
    (of_x [] ((Difference (Input 0) (Literal (over (pos 1) 1))) ∷ []) ∷ []) ∷
    lawful (codes "def f(x:Real):(Real,Real)={require(0<=x&&x<=1) (x,x\n- 1)}")
    (function (codes "f") (input (codes "x") (dec (pos 0) 0) (dec (pos 1) 0) (dec (pos 0) 0) ∷ []) [] []
    ((Input 0) ∷ (Difference (Input 0) (Literal (over (pos 1) 1))) ∷ []) (free ∷ free ∷ []) ∷ []) ∷
    lawful (codes "def f(x:Real):Real={require(2e-1<=x&&x<=0.2) x}")
    (function (codes "f") (input (codes "x") (dec (pos 2) 1) (dec (pos 2) 1) (dec (pos 0) 0) ∷ []) [] []
    ((Input 0) ∷ []) (free ∷ []) ∷ []) ∷
    lawful (codes "def f(x:Real):Real={require((0<=x)&&((x<=1))); x}") (of_x [] ((Input 0) ∷ []) ∷ []) ∷
    lawful (codes "def f(x:Real):Real={require(((0<=x&&x<=1))) x}") (of_x [] ((Input 0) ∷ []) ∷ []) ∷
    lawful (codes "def f(x:Real):Real={require(x>=0&&1>x) x}") (of_x [] ((Input 0) ∷ []) ∷ []) ∷
    lawful (codes "def f(x:Real):Real={require(x>-1&&1>=x&&x+/-1e-9) x}")
    (function (codes "f") (input (codes "x") (dec (negsuc 0) 0) (dec (pos 1) 0) (dec (pos 1) 9) ∷ []) [] []
    ((Input 0) ∷ []) (free ∷ []) ∷ []) ∷
    lawful (codes "def f(x:Real):Real={require(-1<x&&x<-1) x}")
    (function (codes "f") (input (codes "x") (dec (negsuc 0) 0) (dec (negsuc 0) 0) (dec (pos 0) 0) ∷ []) [] []
    ((Input 0) ∷ []) (free ∷ []) ∷ []) ∷
    lawful (codes "def f(x:Real)(s:Real=-1.5):(Real,Real)={require(0<=x&&x<=1)(x,s)}")
    (function (codes "f") (input (codes "x") (dec (pos 0) 0) (dec (pos 1) 0) (dec (pos 0) 0) ∷ [])
    (state (codes "s") (dec (negsuc 14) 1) ∷ []) [] ((Input 0) ∷ (State 0) ∷ []) (free ∷ []) ∷ []) ∷
    lawful (codes "def f(x:Real):(Real)={require(0<=x&&x<=1) x}") (of_x [] ((Input 0) ∷ []) ∷ []) ∷
    lawful (codes "def f(x:Real):(Real,Real)={require(0<=x&&x<=1) (x,x)}ensuring((a,b)=>b+/-1)")
    (function (codes "f") (input (codes "x") (dec (pos 0) 0) (dec (pos 1) 0) (dec (pos 0) 0) ∷ []) [] []
    ((Input 0) ∷ (Input 0) ∷ []) (free ∷ within (dec (pos 1) 0) ∷ []) ∷ []) ∷
    lawful (codes "def f(x:Real):Real={require(0<=x&&x<=1) x}ensuring(r=>r+/-1e-3)")
    (function (codes "f") (input (codes "x") (dec (pos 0) 0) (dec (pos 1) 0) (dec (pos 0) 0) ∷ []) [] []
    ((Input 0) ∷ []) (within (dec (pos 1) 3) ∷ []) ∷ []) ∷
    lawful (codes "def f(x:Real):Real={require(0<=x&&x<=1) x}def g(x:Real):Real={require(0<=x&&x<=1) -x}")
    (of_x [] ((Input 0) ∷ [])
    ∷ function (codes "g") (input (codes "x") (dec (pos 0) 0) (dec (pos 1) 0) (dec (pos 0) 0) ∷ []) [] []
    ((Negation (Input 0)) ∷ []) (free ∷ []) ∷ []) ∷
    lawful (codes "def f(x:Real):Real={require(0<=x&&x<=1) x}") (of_x [] ((Input 0) ∷ []) ∷ []) ∷
    lawful (codes "object O{}") [] ∷
    []

sources_2_are : lawful_readings sources_2 ≡ meanings sources_2
unfolding sources_2 dec input state temp within function of_x over decimal_value read
sources_2_are = refl

sources_3 : List Lawful
unfolding over
sources_3 =
    lawful (codes "import a") [] ∷
    lawful (codes "def f(x:Real):Real={require(0<=x&&x<=1) - 5}") (of_x [] ((Literal (over (negsuc 4) 1)) ∷ []) ∷ []) ∷
    lawful (codes "def f(x:Real):Real={require(0<=x&&x<=1) -(x)}") (of_x [] ((Negation (Input 0)) ∷ []) ∷ []) ∷
    lawful (codes "def f(x:Real):Real={require(0<=x&&x<=1) x*-x}")
    (of_x [] ((Product (Input 0) (Negation (Input 0))) ∷ []) ∷ []) ∷
    lawful (codes "def f(x:Real):Real={require(0<=x&&x<=1) x-\n-x}")
    (of_x [] ((Difference (Input 0) (Negation (Input 0))) ∷ []) ∷ []) ∷
    lawful (codes "def f(x:Real):Real={require(0<=x&&x<=1) x*\n-x}")
    (of_x [] ((Product (Input 0) (Negation (Input 0))) ∷ []) ∷ []) ∷
    lawful (codes "def f(x:Real):Real={require(0<=x&&x<=1) x - x - x / x * 2}")
    (of_x [] ((Difference (Difference (Input 0) (Input 0))
    (Product (Quotient (Input 0) (Input 0)) (Literal (over (pos 2) 1)))) ∷ []) ∷ []) ∷
    lawful (codes "def f(x:Real):Real={require(0<=x&&x<=1) val t=x val s=t*t s-t}")
    (of_x (temp (codes "t") (Input 0) ∷ temp (codes "s") (Product (Temp 0) (Temp 0)) ∷ [])
    ((Difference (Temp 1) (Temp 0)) ∷ []) ∷ []) ∷
    lawful (codes "def f(x:Real):Real={require(0<=x&&x<=1) val t: Real = x; val s: Real = t\n-s}")
    (of_x (temp (codes "t") (Input 0) ∷ temp (codes "s") (Temp 0) ∷ []) ((Negation (Temp 1)) ∷ []) ∷ []) ∷
    lawful (codes "def f(x:Real):Real={require(0<=x&&x<=1) ((x)+(1))*2}")
    (of_x [] ((Product (Sum (Input 0) (Literal (over (pos 1) 1))) (Literal (over (pos 2) 1))) ∷ []) ∷ []) ∷
    lawful (codes "def f(x:Real):Real={require(0<=x&&x<=1) x/1/2*3}")
    (of_x [] ((Product (Quotient (Quotient (Input 0) (Literal (over (pos 1) 1))) (Literal (over (pos 2) 1)))
    (Literal (over (pos 3) 1))) ∷ []) ∷ []) ∷
    lawful (codes "def f(x:Real):Real={require(0<=x&&x<=1) val t = (x\n-1)\n-t}")
    (of_x (temp (codes "t") (Difference (Input 0) (Literal (over (pos 1) 1))) ∷ []) ((Negation (Temp 0)) ∷ []) ∷ [])
    ∷
    lawful (codes "def f(a:Real,b:Real)(s:Real=-2,t:Real=0.50):(Real,Real,Real)={" ++
    codes "require(a>=0&&a<1&&(b+/-0.1&&0<b&&b<=2)) val u=s*a; (u+t,u,-t*b)}ensuring(o=>o+/-1e-3)")
    (function (codes "f") (input (codes "a") (dec (pos 0) 0) (dec (pos 1) 0) (dec (pos 0) 0) ∷
    input (codes "b") (dec (pos 0) 0) (dec (pos 2) 0) (dec (pos 1) 1) ∷ [])
    (state (codes "s") (dec (negsuc 1) 0) ∷ state (codes "t") (dec (pos 5) 1) ∷ [])
    (temp (codes "u") (Product (State 0) (Input 0)) ∷ [])
    ((Sum (Temp 0) (State 1)) ∷ (Temp 0) ∷ (Product (Negation (State 1)) (Input 1)) ∷ [])
    (within (dec (pos 1) 3) ∷ []) ∷ []) ∷
    []

sources_3_are : lawful_readings sources_3 ≡ meanings sources_3
unfolding sources_3 dec input state temp within function of_x over decimal_value read
sources_3_are = refl
