pub mod BatchesOfNumbers
