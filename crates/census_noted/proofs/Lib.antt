mod So
